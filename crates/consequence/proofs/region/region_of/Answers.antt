use Rattle.consequence.proofs.region.region_of.Goals as goal

pub returns-in-Upstream : goal.returns-in-Upstream
returns-in-Upstream c = rw c.in-Upstream.is

pub returns-in-Downstream : goal.returns-in-Downstream
returns-in-Downstream c = rw c.in-Downstream.is

pub returns-in-FivePrimeUtr : goal.returns-in-FivePrimeUtr
returns-in-FivePrimeUtr c = rw c.in-FivePrimeUtr.is

pub returns-in-CdsExon : goal.returns-in-CdsExon
returns-in-CdsExon c = rw c.in-CdsExon.is

pub returns-in-ThreePrimeUtr : goal.returns-in-ThreePrimeUtr
returns-in-ThreePrimeUtr c = rw c.in-ThreePrimeUtr.is

pub returns-in-SpliceDonor : goal.returns-in-SpliceDonor
returns-in-SpliceDonor c = rw c.in-SpliceDonor.is

pub returns-in-SpliceAcceptor : goal.returns-in-SpliceAcceptor
returns-in-SpliceAcceptor c = rw c.in-SpliceAcceptor.is

pub returns-in-SpliceRegion : goal.returns-in-SpliceRegion
returns-in-SpliceRegion c = rw c.in-SpliceRegion.is

pub returns-in-Intron : goal.returns-in-Intron
returns-in-Intron c = rw c.in-Intron.is

pub returns-in-FrameshiftIntron : goal.returns-in-FrameshiftIntron
returns-in-FrameshiftIntron c = rw (c.in-FrameshiftIntron.is, c.frameshift_term.ensures)

pub returns-in-NonCodingExon : goal.returns-in-NonCodingExon
returns-in-NonCodingExon c = rw c.in-NonCodingExon.is

pub returns-in-NonCodingIntron : goal.returns-in-NonCodingIntron
returns-in-NonCodingIntron c = rw c.in-NonCodingIntron.is
