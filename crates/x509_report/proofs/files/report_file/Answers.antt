-- What the printer tells at the end.
use Rattle.std.proofs.Common.{◌≡◌, ℕ, Bool, true, List, [], Option, Some, None, IfErr, IfOk, inl, inr, map, refl, subst, sym, ap, ◌∙◌}
use Rattle.std.specs.Io.KnownBytes.{Appends}
use Rattle.std.proofs.KnownBytes.{Appends-nil}
use Rattle.x509_report.specs.Files.{IsFileTold, StopsInFile, Task, TellsFile, choice, task_of}
use Rattle.x509_report.specs.Told.{Printed, Prints, Tells, Told, halted, outcome, outcome_of}
use Rattle.x509_report.specs.declared.stop.Stop.{Stop}
use Rattle.x509_report.specs.declared.stop.Stop.TheVariants as why
use Rattle.x509_report.proofs.files.report_file.Goals as goal

abbrev begun : Printed → Printed
begun p = record p { taken = true }

because : (x : Option Stop) (taken : Bool) → IfErr (outcome_of x taken) (λ stop. x ≡ Some stop)
because None taken = tt
because (Some e) taken = refl

module _ (t : Task) (octets : List ℕ) (old new : Printed) (told : Told) (is : IsFileTold t octets told) where
  tells : (x : Option Stop) → Tells x (begun old) new told → IfOk (outcome_of x new.taken) (TellsFile t octets old.written new.written)
  tells None p = record { told = told; is = is; all = p.1; text = p.0 }
  tells (Some e) p = tt

  stops : (x : Option Stop) → Tells x (begun old) new told → IfErr (outcome_of x new.taken) (λ stop. stop ≡ why.Memory → StopsInFile t octets old.written new.written)
  stops None p = tt
  stops (Some why.Memory) p = λ h. inr (told, is, p)
  stops (Some why.Write) p = λ h. absurd cc

pub returns : goal.returns
returns g c =
    let t = task_of c.args.asked.now c.args.file.now in
    let octets = c.args.octets.now in
    let old = c.args.printer.now in
    let new = c.report_parts.new.printer in
    let elements = map (λ e. e.now) c.in-Ok.elements.items in
    let rest = c.in-Ok.rest.now in
    let told : Told = choice t octets elements rest in
    let is : IsFileTold t octets told = record { elements = elements; rest = rest; split = c.in-Ok.ensures.split; chosen = refl } in
    let parts = subst (λ es. Prints c.begin_file.new.self new (choice t octets (map (λ e. e.now) es) rest)) c.as_slice.ensures.value c.report_parts.ensures in
    let p = subst (λ p. Prints p new told) c.begin_file.ensures parts in
    record {
      told = subst (λ r. IfOk r (TellsFile t octets old.written new.written)) (sym c.finish-2.ensures) (tells t octets old new told is new.stopped p.lines);
      stopped = subst (λ r. IfErr r (λ stop. stop ≡ why.Memory → StopsInFile t octets old.written new.written)) (sym c.finish-2.ensures)
          (stops t octets old new told is new.stopped p.lines);
      reason = subst (λ r. IfErr r (λ stop. new.stopped ≡ Some stop)) (sym c.finish-2.ensures) (because new.stopped new.taken);
    }

pub returns-in_default : goal.returns-in_default
returns-in_default g c =
    let t = task_of c.args.asked.now c.args.file.now in
    let octets = c.args.octets.now in
    let old = c.args.printer.now in
    let new = c.stop.new.self in
    let same = c.stop.ensures ∙ ap halted c.begin_file.ensures in
    let result = c.finish.ensures ∙ ap outcome same in
    record {
      told = subst (λ r. IfOk r (TellsFile t octets old.written new.written)) (sym result) tt;
      stopped = subst (λ r. IfErr r (λ stop. stop ≡ why.Memory → StopsInFile t octets old.written new.written)) (sym result)
          (λ h. inl (subst (λ p. Appends old.written p.written []) (sym same) (Appends-nil old.written)));
      reason = subst (λ r. IfErr r (λ stop. new.stopped ≡ Some stop)) (sym c.finish.ensures) (because new.stopped new.taken);
    }
