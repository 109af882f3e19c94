-- The records reached while the walk is on its way.
use Rattle.std.specs.Prelude.{ℕ, suc, ◌+◌, ◌<◌, ◌≡◌, Bool, true, false, cond, not, ◌||◌, List, [], ◌∷◌, length, get_or, set, take, replicate, reverse, leb, eqb}
use Rattle.common.specs.Lists.{memb}
use Rattle.deck.specs.declared.DeckRefusal.{DeckRefusal}
use Rattle.deck.specs.declared.links.Link.{Link}
use Rattle.deck.specs.declared.walk.Trail.{Trail}
use Rattle.deck.specs.Refused.{link_refusal}
use Rattle.deck.specs.Kind.{kind_number}
use Rattle.deck.specs.Records.{record_count, kind_of}
use Rattle.deck.specs.Walk.{Walk, walked, stopped, transcripts_from, walk_deck}

-- the head alone
abbrev pub first_trail : Trail
first_trail = record { marks = set (replicate 4096 false) 0 true; order = replicate 4096 0; count = 0 }

-- one record more
abbrev pub with_record : Trail → ℕ → Trail
with_record t i = record { marks = set t.marks i true; order = set t.order t.count i; count = t.count + 1 }

abbrev pub is_unreached : Trail → ℕ → Bool
is_unreached t i = not (get_or t.marks i false)

-- a link outside the deck, to a wrong kind, or to a record already reached
abbrev pub is_bad : List ℕ → Link → Trail → Bool
is_bad d link t = leb (record_count d) link.to || not (eqb (kind_of d link.to) (kind_number link.kind)) || get_or t.marks link.to false

-- the records not yet reached
abbrev pub free : List Bool → ℕ
free [] = 0
free (x ∷ xs) = cond x (free xs) (suc (free xs))

abbrev pub left : List ℕ → Trail → ℕ
left d t = free (take (record_count d) t.marks)

-- what is reached, the last one first
pub record Reached (d : List ℕ) (t : Trail) (reached : List ℕ) : Type 0 where
  pub marks : (k : ℕ) → memb k reached ≡ get_or t.marks k false
  pub ordered : reached ≡ reverse (0 ∷ take t.count t.order)
  pub room : t.count + left d t < record_count d
  pub marks_long : length t.marks ≡ 4096
  pub order_long : length t.order ≡ 4096

-- how a walk ends: with the records reached, or at a bad link. What was collected on the way is left out
pub data Way : Type 0 where
  ended : List ℕ → Way
  bad : ℕ → Way

abbrev pub walk_way : Walk → Way
walk_way (walked ps r) = ended r
walk_way (stopped i) = bad i

-- before transcript i, to which record `from` links
pub record Before (d : List ℕ) (t : Trail) (from i : ℕ) : Type 0 where
  pub list : List ℕ
  pub held : Reached d t list
  pub in_from : from < record_count d
  pub fuel : ℕ
  pub enough : left d t < fuel
  pub same : walk_way (transcripts_from fuel d from i list) ≡ walk_way (walk_deck d)

-- with every link followed
pub record Through (d : List ℕ) (t : Trail) : Type 0 where
  pub list : List ℕ
  pub held : Reached d t list
  pub same : walk_way (walk_deck d) ≡ ended list

-- at a bad link
pub record Stops (d : List ℕ) (e : DeckRefusal) : Type 0 where
  pub holder : ℕ
  pub refused : e ≡ link_refusal holder
  pub same : walk_way (walk_deck d) ≡ bad holder
