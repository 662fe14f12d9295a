use Rattle.std.proofs.Common.{◌≡◌, ◌<◌, Bool, true, false, cond, subst, List, Ok, map, ap, sym, ◌∙◌, arith, length}
use Rattle.std.proofs.lemmas.List.{append-nil}
use Rattle.std.proofs.lemmas.List.Sums.{sum_by_push}
use Rattle.x509_der.specs.declared.error.Err.{Err as Refusal}
use Rattle.x509_der.specs.Place.{at}
use Rattle.x509_der.specs.Looks.{behind}
use Rattle.x509_der.specs.Plan.{got}
use Rattle.x509_der.specs.Promises.{is_excused}
use Rattle.x509_der.proofs.Results.{bytes_behind}
use Rattle.x509_der.proofs.MarkLoop.{marks_go_on, marks_stop, marks_at_end}
use Rattle.x509_der.proofs.RunLoop.{with_front, goes_on, stops, own_refusal, none_behind}
use Rattle.x509_fields.specs.Errors.{is_x509_memory}
use Rattle.x509_extensions.specs.Extension.{Extension, extension_of, extension_heads, extension, extension_laws}
use Rattle.x509_extensions.proofs.extension_list.members.Goals as goal

-- what holds of a refusal of one's own, where want of memory is excused
own_fact : {E P : Type 0} (is_memory : E → Bool) (e : Refusal E) → is_excused is_memory true e ≡ false → cond (is_excused is_memory true e) (Unit {0}) P → P
own_fact {E} {P} is_memory e own given = subst (λ (b : Bool). cond b (Unit {0}) P) own given

pub loop-alloc-preserved : goal.loop-alloc-preserved
loop-alloc-preserved g c =
    let deep = g.D.Depth.deep in
    let more = c.in-Ok-add_at.ensures.added in
    let here : at c.look-place.result ≡ c.loop-alloc.rest.now = c.look-place.ensures.bytes in
    let read : (extension deep).read c.loop-alloc.rest.now ≡ got more.added c.rest-rest.result.now = ap (extension deep).read (sym here) ∙ more.reads ∙ ap (got more.added) (sym c.rest-rest.ensures.behind) in
    let marked : c.in-Ok-add_at.marked ≡ (extension deep).marks c.loop-alloc.rest.now = more.marks ∙ ap (extension deep).marks here in
    let long : length (at c.look-place.result) ≡ length c.loop-alloc.rest.now = ap length here in
    let left : length c.rest-rest.result.now ≡ length (behind (at c.look-place.result)) = ap length c.rest-rest.ensures.behind in
    let some : 0 < length c.loop-alloc.rest.now = grind arith in
    let looked = c.look-place.ensures.tries in
    let more_tries = c.add_at.ensures.grows in
    let sum = sum_by_push extension_heads (map extension_of c.loop-alloc.list) more.added in
    let values = sum_by_push (λ x. length x.value) (map extension_of c.loop-alloc.list) more.added in
    let local = (extension_laws deep).laws.lawful.is_local in
    let s = local.sentence c.loop-alloc.rest.now _ _ c.loop-alloc.invariant.bytes read in
    record {
      bytes = bytes_behind c.loop-alloc.rest.now s.bytes c.rest-rest.result.now s.parts c.loop-alloc.invariant.bytes;
      run = rw more.puts (goes_on (extension deep) local (map extension_of c.loop-alloc.list) c.loop-alloc.rest.now _ _ _ c.loop-alloc.invariant.bytes read c.loop-alloc.invariant.run);
      marks = marks_go_on (extension deep) local _ _ c.loop-alloc.rest.now _ _ _ c.loop-alloc.invariant.bytes read marked c.loop-alloc.invariant.marks;
      grows = omega (arith, looked.grows, more_tries);
      count = omega (arith, long, left, looked.few, more.count, c.loop-alloc.invariant.count);
      least = rw more.puts (λ under. omega (arith, sum, long, some, looked.grows, looked.some, more_tries, more.least, c.loop-alloc.invariant.least));
      shallow = rw more.puts (λ off. omega (arith, values, long, left, looked.few, more.shallow off, c.loop-alloc.invariant.shallow off));
    }

pub returns-in-Err-add_at : goal.returns-in-Err-add_at
returns-in-Err-add_at g c =
    let p = extension g.D.Depth.deep in
    let refusal = ap p.read (sym c.look-place.ensures.bytes) ∙ own_refusal is_x509_memory true c.in-Err-add_at.e (p.read (at c.look-place.result)) (cc) c.in-Err-add_at.ensures.refused in
    let kept : c.add_at.new.list ≡ c.loop-alloc.list = own_fact is_x509_memory c.in-Err-add_at.e (cc) c.in-Err-add_at.ensures.kept in
    let long : length (at c.look-place.result) ≡ length c.loop-alloc.rest.now = ap length c.look-place.ensures.bytes in
    let looked = c.look-place.ensures.tries in
    record {
      reads = rw kept (ap Ok (stops p (map extension_of c.loop-alloc.list) c.loop-alloc.rest.now c.in-Err-add_at.e _ refusal c.loop-alloc.invariant.run));
      marks = marks_stop p _ c.loop-alloc.rest.now c.in-Err-add_at.e _ refusal c.loop-alloc.invariant.marks;
      grows = omega (arith, looked.grows, c.add_at.ensures.grows, c.loop-alloc.invariant.grows);
      count = omega (arith, long, looked.few, c.add_at.ensures.few, c.loop-alloc.invariant.count);
      least = rw kept (λ under. omega (arith, looked.grows, c.add_at.ensures.grows, c.loop-alloc.invariant.least));
      shallow = rw kept (λ off. omega (arith, long, looked.few, c.add_at.ensures.few, c.loop-alloc.invariant.shallow off));
    }

pub returns : goal.returns
returns g c =
    let p = extension g.D.Depth.deep in
    let rest = c.loop-alloc.rest.now in
    let front = map extension_of c.loop-alloc.list in
    let none : length rest ≡ 0 = grind arith in
    record {
      reads = ap Ok (sym c.loop-alloc.invariant.run ∙ ap (with_front front) (none_behind p rest none) ∙ ap (λ (xs : List Extension). (rest, xs)) (append-nil front));
      marks = marks_at_end p _ rest _ none c.loop-alloc.invariant.marks;
      grows = c.loop-alloc.invariant.grows;
      count = omega (arith, c.loop-alloc.invariant.count);
      least = c.loop-alloc.invariant.least;
      shallow = λ off. omega (arith, c.loop-alloc.invariant.shallow off);
    }
