use Rattle.std.proofs.Common.{◌≡◌, ◌++◌, ◌∷◌, [], Ok, map, ap, arith}
use Rattle.std.proofs.lemmas.List.{map_push}
use Rattle.x509_der.proofs.Results.{bytes_behind}
use Rattle.x509_der.proofs.RunLoop.{goes_on, stops}
use Rattle.x509_der.proofs.MarkLoop.{marks_go_on, marks_stop}
use Rattle.x509_der.proofs.Windows.{local_shorter}
use Rattle.x509_values.specs.Timestamp.{timestamp_of, timestamp, timestamp_laws}
use Rattle.x509_values.proofs.timestamp_list.read_entries.Goals as goal

pub loop-after-smaller : goal.loop-after-smaller
loop-after-smaller c =
    omega (arith, local_shorter timestamp timestamp_laws.is_local c.loop-after.rest.now _ _ c.loop-after.invariant.bytes c.in-Ok.ensures.reading)

pub loop-after-preserved : goal.loop-after-preserved
loop-after-preserved c =
    let e : map timestamp_of c.push.new.self ≡ map timestamp_of c.loop-after.entries ++ timestamp_of c.in-Ok.entry ∷ [] = grind (arith, map_push) in
    let s = timestamp_laws.is_local.sentence c.loop-after.rest.now _ _ c.loop-after.invariant.bytes c.in-Ok.ensures.reading in
    record {
      bytes = bytes_behind c.loop-after.rest.now s.bytes c.in-Ok.after.now s.parts c.loop-after.invariant.bytes;
      run = rw e (goes_on timestamp timestamp_laws.is_local (map timestamp_of c.loop-after.entries) c.loop-after.rest.now _ _ _ c.loop-after.invariant.bytes c.in-Ok.ensures.reading c.loop-after.invariant.run);
      marks = marks_go_on timestamp timestamp_laws.is_local _ _ c.loop-after.rest.now _ _ _ c.loop-after.invariant.bytes c.in-Ok.ensures.reading c.in-Ok.ensures.marks c.loop-after.invariant.marks;
    }

pub returns-clause-reads : goal.returns-clause-reads
returns-clause-reads c =
    ap Ok (stops timestamp (map timestamp_of c.loop-after.entries) c.loop-after.rest.now c.in_default.field-0 _ c.in_default.ensures.reading c.loop-after.invariant.run)

pub returns-clause-marks : goal.returns-clause-marks
returns-clause-marks c =
    marks_stop timestamp _ c.loop-after.rest.now c.in_default.field-0 _ c.in_default.ensures.reading c.loop-after.invariant.marks
