use Prim.Native.Nat.{ℕ, ◌+◌}
use mathlib.Core.Path.{◌≡◌}
use mathlib.Core.List.{map}
use native.Mathlib.Omega.{arith}
use lib.ListN.{get_or, set}
use Rattle.common.proofs.Filling.{front}
use Rattle.deck.specs.Records.{kind_of, mark_of, word}
use Rattle.deck.specs.code.Table.{number_of}
use Rattle.deck.proofs.Columned.{column_step}
use Rattle.deck.proofs.Table.store_rows.Goals as goal

pub loop-k-preserved : goal.loop-k-preserved
loop-k-preserved c =
    let d = c.args.d.now in
    let o = c.args.order.now in
    let k = c.loop-k.k in
    let step : (f : ℕ → ℕ) (v : ℕ) → v ≡ f (get_or o k 0) → set (front (map f o) 4096 k) k v ≡ front (map f o) 4096 (k + 1)
    = λ f v e. column_step f o k c.requires.few (omega arith) e in
    rw (
      c.loop-k.invariant,
      step (kind_of d) _ c.kind.ensures,
      step (mark_of d) _ c.mark.ensures,
      step (λ i. word d i 4) _ c.u32_at.ensures,
      step (number_of d) _ c.number_of.ensures,
      c.from.ensures,
      step (λ i. word d i 4) _ c.u32_at-in-loop-k.ensures,
      c.from-in-loop-k.ensures,
      step (λ i. word d i 8) _ c.u32_at-in-loop-k-2.ensures,
    )
