-- The numbers that bound a transcript and a query.
use Rattle.std.specs.Prelude.{ℕ}

-- at most 512 exons
abbrev pub max_exons : ℕ
max_exons = 512

-- at most 64 selenocysteine bases
abbrev pub max_selenocysteine : ℕ
max_selenocysteine = 64

-- the largest coordinate of a transcript
abbrev pub coordinate_limit : ℕ
coordinate_limit = 1_000_000_000

-- the largest start or end of a query
abbrev pub query_limit : ℕ
query_limit = 1_000_010_000

-- a number above every coordinate; on the minus strand positions are counted down from it
abbrev pub top : ℕ
top = 2_000_000_000

-- chromosomes are 1 to 25
abbrev pub last_chromosome : ℕ
last_chromosome = 25

-- chromosome 25 is chrM
abbrev pub mitochondrial : ℕ
mitochondrial = 25
