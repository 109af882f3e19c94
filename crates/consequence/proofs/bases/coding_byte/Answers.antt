use Rattle.consequence.proofs.bases.coding_byte.Goals as goal

pub returns-in-Minus : goal.returns-in-Minus
returns-in-Minus c = rw c.in-Minus.is c.complement.ensures
