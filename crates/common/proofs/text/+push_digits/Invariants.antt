-- The recursion ends since `places` falls.
use Rattle.common.proofs.text.+push_digits.Given as goal

abbrev pub decreases-push_digits : goal.decreases-push_digits
decreases-push_digits l = l.places
