-- A call and a window as they are handed in.
use Rattle.common.specs.Slices.{Passed}
use Rattle.consequence.specs.declared.Call.{Call}
use Rattle.consequence.specs.Window.{Window}
use Rattle.words.specs.declared.VareffectCall.{VareffectCall}
use Rattle.words.specs.declared.VareffectWindow.{VareffectWindow}

abbrev pub call_of : VareffectCall → Call
call_of c = record {
  chromosome = c.chromosome;
  position = c.position;
  ref_base = c.ref_base;
  alt_base = c.alt_base;
}

-- the bases that were lent stand where the window begins
abbrev pub window_of : VareffectWindow → Passed → Window
window_of w bases = record { chromosome = w.chromosome; first = w.first; bytes = bases.entry.now }
