use Rattle.std.proofs.Common.{◌++◌, ◌∷◌, [], ap, sym, ◌∙◌, arith, rules}
use Rattle.std.proofs.lemmas.List.Sums.{sum_by_push}
use Rattle.x509_der.specs.Plan.{got}
use Rattle.x509_der.specs.Promises.{is_ber_memory}
use Rattle.x509_der.proofs.Results.{bytes_behind}
use Rattle.x509_der.proofs.RunLoop.{goes_on, stops}
use Rattle.x509_der.proofs.MarkLoop.{marks_go_on, marks_stop}
use Rattle.x509_values.specs.ExtendedKeyUsage.{key_purpose, key_purpose_of, key_purpose_laws, usages_in}
use Rattle.x509_values.proofs.Purposes.{least, refused}
use Rattle.x509_values.proofs.extended_key_usage.read_purposes.Goals as goal

pub loop-after-preserved : goal.loop-after-preserved
loop-after-preserved c =
    let own = key_purpose_laws.laws.lawful.is_local in
    let s = own.sentence c.loop-after.rest.now _ _ c.loop-after.invariant.bytes c.in-Ok.ensures.reads in
    let sum = sum_by_push (λ id. 1) c.loop-after.invariant.ids (key_purpose_of c.in-Ok.purpose) in
    record {
      ids = c.loop-after.invariant.ids ++ key_purpose_of c.in-Ok.purpose ∷ [];
      says = c.in_ok-add.ensures.said c.loop-after.invariant.ids c.loop-after.invariant.says;
      seen = c.in_ok-add.ensures.seen;
      bytes = bytes_behind c.loop-after.rest.now s.bytes c.in-Ok.after.now s.parts c.loop-after.invariant.bytes;
      run = goes_on key_purpose own c.loop-after.invariant.ids c.loop-after.rest.now _ _ _ c.loop-after.invariant.bytes c.in-Ok.ensures.reads c.loop-after.invariant.run;
      marks = marks_go_on key_purpose own _ _ c.loop-after.rest.now _ _ _ c.loop-after.invariant.bytes c.in-Ok.ensures.reads c.in-Ok.ensures.marks c.loop-after.invariant.marks;
      grows = omega (arith, c.in-Ok.ensures.tries.grows, c.loop-after.invariant.grows);
      count = omega (arith, c.in-Ok.ensures.tries.count, c.loop-after.invariant.count);
      least = λ under. omega (arith, sum, c.in-Ok.ensures.tries.least, c.in-Ok.ensures.tries.grows, c.loop-after.invariant.grows, c.loop-after.invariant.least);
    }

pub returns : goal.returns
returns c =
    let why = refused is_ber_memory c.in_default.field-0 _ c.in_default.ensures.reads in
    record {
      reads = ap (λ t. got (usages_in t.1) t.0) (stops key_purpose c.loop-after.invariant.ids c.loop-after.rest.now c.in_default.field-0 _ why c.loop-after.invariant.run)
          ∙ ap (λ u. got u c.loop-after.rest.now) (sym c.loop-after.invariant.says);
      marks = marks_stop key_purpose _ c.loop-after.rest.now c.in_default.field-0 _ why c.loop-after.invariant.marks;
      grows = search rules;
      count = search rules;
      least = λ small.
          let so_far = least c.loop-after.invariant.ids _ _ _ c.loop-after.invariant.says c.loop-after.invariant.least in
          omega (arith, so_far, c.in_default.ensures.tries.grows);
    }
