use Rattle.std.proofs.Common.{◌≡◌, ◌-◌, ◌^◌, vec_len}
use Rattle.std.specs.Io.KnownBytes.{Consumes}
use Rattle.x509_show.proofs.runs.read_whole.Given as goal

-- what it gave so far, and that no read failed
abbrev pub invariant-chunks : goal.invariant-chunks
invariant-chunks g l =
    record {
      gave : Consumes (g.S.Source.remaining l.initial.reader) (g.S.Source.remaining l.reader) l.held.items;
      well : g.S.Source.has_failed l.reader ≡ g.S.Source.has_failed l.initial.reader;
    }

-- each turn holds more, and no vector has more than the greatest usize
abbrev pub decreases-chunks : goal.decreases-chunks
decreases-chunks g l = 2 ^ 64 - vec_len l.held
