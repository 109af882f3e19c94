use Rattle.locate.specs.PlaceKind.{place_names}
use Rattle.lines.proofs.places.place_name.Goals as goal

pub returns-in-Upstream-clause-name : goal.returns-in-Upstream-clause-name
unfolding place_names
returns-in-Upstream-clause-name c = rw c.in-Upstream.is

pub returns-in-Downstream-clause-name : goal.returns-in-Downstream-clause-name
unfolding place_names
returns-in-Downstream-clause-name c = rw c.in-Downstream.is

pub returns-in-Distal-clause-name : goal.returns-in-Distal-clause-name
unfolding place_names
returns-in-Distal-clause-name c = rw c.in-Distal.is

pub returns-in-FivePrimeUtr-clause-name : goal.returns-in-FivePrimeUtr-clause-name
unfolding place_names
returns-in-FivePrimeUtr-clause-name c = rw c.in-FivePrimeUtr.is

pub returns-in-CdsExon-clause-name : goal.returns-in-CdsExon-clause-name
unfolding place_names
returns-in-CdsExon-clause-name c = rw c.in-CdsExon.is

pub returns-in-ThreePrimeUtr-clause-name : goal.returns-in-ThreePrimeUtr-clause-name
unfolding place_names
returns-in-ThreePrimeUtr-clause-name c = rw c.in-ThreePrimeUtr.is

pub returns-in-SpliceDonor-clause-name : goal.returns-in-SpliceDonor-clause-name
unfolding place_names
returns-in-SpliceDonor-clause-name c = rw c.in-SpliceDonor.is

pub returns-in-SpliceAcceptor-clause-name : goal.returns-in-SpliceAcceptor-clause-name
unfolding place_names
returns-in-SpliceAcceptor-clause-name c = rw c.in-SpliceAcceptor.is

pub returns-in-SpliceRegion-clause-name : goal.returns-in-SpliceRegion-clause-name
unfolding place_names
returns-in-SpliceRegion-clause-name c = rw c.in-SpliceRegion.is

pub returns-in-Intron-clause-name : goal.returns-in-Intron-clause-name
unfolding place_names
returns-in-Intron-clause-name c = rw c.in-Intron.is

pub returns-in-FrameshiftIntron-clause-name : goal.returns-in-FrameshiftIntron-clause-name
unfolding place_names
returns-in-FrameshiftIntron-clause-name c = rw c.in-FrameshiftIntron.is

pub returns-in-NonCodingExon-clause-name : goal.returns-in-NonCodingExon-clause-name
unfolding place_names
returns-in-NonCodingExon-clause-name c = rw c.in-NonCodingExon.is

pub returns-in-NonCodingIntron-clause-name : goal.returns-in-NonCodingIntron-clause-name
unfolding place_names
returns-in-NonCodingIntron-clause-name c = rw c.in-NonCodingIntron.is
