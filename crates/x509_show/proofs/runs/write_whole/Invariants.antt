use Rattle.std.proofs.Common.{◌≡◌, ◌≤◌, ◌-◌, length, take}
use Rattle.std.specs.Io.KnownBytes.{Appends}
use Rattle.x509_show.proofs.runs.write_whole.Given as goal

-- what it took so far, and that no write failed
abbrev pub invariant-text : goal.invariant-text
invariant-text g l =
    record {
      within : l.taken ≤ length l.text;
      took : Appends (g.W.Sink.written l.initial.writer) (g.W.Sink.written l.writer) (take l.taken l.text);
      well : g.W.Sink.has_failed l.writer ≡ g.W.Sink.has_failed l.initial.writer;
    }

abbrev pub decreases-text : goal.decreases-text
decreases-text g l = length l.text - l.taken
