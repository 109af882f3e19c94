-- Lines packed into a room.
-- Assumes nothing.
use Prim.Native.Nat.{ℕ, ◌+◌, ◌-◌, ◌≤◌, ◌<◌}
use mathlib.Core.Path.{◌≡◌, refl, sym, ◌∙◌, ap}
use mathlib.Core.List.{List, [], ◌∷◌, ◌++◌, map, append_assoc}
use native.Mathlib.Omega.{arith}
use lib.ListN.{length, length-append}
use lib.Dec.{leb}
use borrow.Author.Tests.{lt-leb, leb-true, leb-false}
use Rattle.std.specs.Prelude.{Option, Some, None}
use Rattle.common.specs.Lists.{concat}
use Rattle.common.proofs.TestParts.{on_test}
use Rattle.listing.specs.declared.Cursor.{Cursor}
use Rattle.listing.specs.Pieces.{Step, Packed, behind, pack}

abbrev pub text_of : Step → List ℕ
text_of s = s.text

-- the bytes of lines
abbrev pub texts : List Step → List ℕ
texts ss = concat (map text_of ss)

pub texts_both : (xs ys : List Step) → texts (xs ++ ys) ≡ texts xs ++ texts ys
unfolding concat
texts_both [] ys = refl
texts_both (x ∷ xs) ys = ap (λ (l : List ℕ). x.text ++ l) (texts_both xs ys) ∙ sym (append_assoc x.text (texts xs) (texts ys))

pub behind_both : (a b : List ℕ) (p : Packed) → behind a (behind b p) ≡ behind (a ++ b) p
behind_both a b p = ap (λ (l : List ℕ). record { text = l; rest = p.rest }) (sym (append_assoc a b p.text))

-- one line: it fits, or it does not
module _ (room : ℕ) (s : Step) (ss : List Step) where
  pub pack_full : room < length s.text → pack room (s ∷ ss) ≡ record { text = []; rest = Some s.before }
  unfolding pack
  pack_full h = rw (lt-leb (length s.text) room h)

pub pack_none : (room : ℕ) → pack room [] ≡ record { text = []; rest = None }
unfolding pack
pack_none room = refl

-- lines behind others, which all fit or not
abbrev pub pack_on : ℕ → Packed → Option Cursor → List Step → Packed
pack_on room p (Some c) ys = p
pack_on room p None ys = behind p.text (pack (room - length p.text) ys)

on_behind : (room : ℕ) (l : List ℕ) (p : Packed) (r : Option Cursor) (ys : List Step) → p.rest ≡ r
    → behind l (pack_on (room - length l) p r ys) ≡ pack_on room (behind l p) r ys
on_behind room l p (Some c) ys e = refl
on_behind room l p None ys e =
    let a = length-append l p.text in
    let n : room - length l - length p.text ≡ room - length (l ++ p.text) = omega arith in
    behind_both l p.text (pack (room - length l - length p.text) ys) ∙ ap (λ (m : ℕ). behind (l ++ p.text) (pack m ys)) n

pub pack_both : (room : ℕ) (xs ys : List Step) → pack room (xs ++ ys) ≡ pack_on room (pack room xs) (pack room xs).rest ys
unfolding pack
pack_both room [] ys = let n : room ≡ room - 0 = omega arith in ap (λ (m : ℕ). pack m ys) n
pack_both room (x ∷ xs) ys = on_test (leb (length x.text) room)
    (λ e. rw e (ap (behind x.text) (pack_both (room - length x.text) xs ys) ∙ on_behind room x.text (pack (room - length x.text) xs) (pack (room - length x.text) xs).rest ys refl))
    (λ e. rw e)

-- what is packed fits
pub packed_fits : (room : ℕ) (ss : List Step) → length (pack room ss).text ≤ room
unfolding pack
packed_fits room [] = omega arith
packed_fits room (s ∷ ss) = on_test (leb (length s.text) room)
    (λ e. (let h = leb-true (length s.text) room e in
    let g = packed_fits (room - length s.text) ss in
    let a = length-append s.text (pack (room - length s.text) ss).text in
    rw e (omega arith)))
    (λ e. rw e (omega arith))

-- the lines that are packed, and the first that is left out
abbrev pub Split : ℕ → List Step → List ℕ → Option Cursor → Type 0
Split room ss text None = text ≡ texts ss
Split room ss text (Some c) =
    (pre : List Step) × (s : Step) × (post : List Step)
    × (ss ≡ pre ++ (s ∷ post)) × (text ≡ texts pre) × (s.before ≡ c) × (room < length (texts pre) + length s.text)

split_more : (room : ℕ) (s : Step) (ss : List Step) (text : List ℕ) (r : Option Cursor) → Split (room - length s.text) ss text r → Split room (s ∷ ss) (s.text ++ text) r
unfolding concat
split_more room s ss text None h = ap (λ (l : List ℕ). s.text ++ l) h
split_more room s ss text (Some c) (pre, x, post, e, f, g, h) =
    let a = length-append s.text (texts pre) in
    (s ∷ pre, x, post, ap (λ (l : List Step). s ∷ l) e, ap (λ (l : List ℕ). s.text ++ l) f, g, omega arith)

pub pack_split : (room : ℕ) (ss : List Step) → Split room ss (pack room ss).text (pack room ss).rest
unfolding pack concat
pack_split room [] = refl
pack_split room (s ∷ ss) = on_test (leb (length s.text) room)
    (λ e. rw e (split_more room s ss (pack (room - length s.text) ss).text (pack (room - length s.text) ss).rest (pack_split (room - length s.text) ss)))
    (λ e. (let h = leb-false (length s.text) room e in rw e ([], s, ss, refl, refl, refl, omega arith)))
