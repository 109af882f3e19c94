-- Demand 1 of writing a line.
-- Assumes nothing.
use mathlib.Core.Path.{refl}
use lib.ListN.{length}
use lib.Dec.{ltb}
use Rattle.common.proofs.TestParts.{on_test, leb_not_ltb}
use Rattle.lines.specs.Line.{fits}
use Rattle.lines.specs.claims.Numbers.{LineGiven, LineValued}

pub line_given : LineGiven
line_given buffer line = on_test (ltb (length buffer) (length line))
    (λ e. rw (leb_not_ltb (length line) (length buffer), e) (record { refusal_is = refl; among = refl; zero_answered = refl }))
    (λ e. rw (leb_not_ltb (length line) (length buffer), e) (record { refusal_is = refl; among = refl; zero_answered = refl }))

pub line_valued : LineValued
line_valued buffer line = on_test (fits buffer line) (λ e. rw e) (λ e. rw e)
