-- The two files, judged by their lengths.
-- Assumes nothing.
use Prim.Native.Nat.{ℕ, ◌≤◌}
use mathlib.Core.Path.{◌≡◌, refl}
use mathlib.Core.Bool.{Bool, true, false, ◌||◌}
use mathlib.Core.List.{List}
use native.Mathlib.Omega.{arith}
use lib.ListN.{length}
use lib.Dec.{ltb}
use borrow.Author.Tests.{ltb-false}
use Rattle.listing.specs.WindowFile.{bad_window_file, bad_call_file}

-- neither file is refused
neither : (a b c : Bool) → (a || b || c) ≡ false → (a ≡ false) × (c ≡ false)
neither false false c e = (refl, e)
neither false true c e = absurd (let z : ◌≡◌ {A = ℕ} 0 1 = cc in omega arith)
neither true b c e = absurd (let z : ◌≡◌ {A = ℕ} 0 1 = cc in omega arith)

pub right_files : (window calls : List ℕ) → (bad_window_file window || bad_call_file calls) ≡ false → (10 ≤ length window) × (length calls ≤ 65_536)
right_files window calls e =
    let n = neither (ltb (length window) 10) (ltb 65_536 (length window)) (ltb 65_536 (length calls)) e in
    (ltb-false (length window) 10 n.0, ltb-false 65_536 (length calls) n.1)
