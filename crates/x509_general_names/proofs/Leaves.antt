-- A flag that is set stands there.
use Rattle.std.proofs.Common.{◌≡◌, ◌≤◌, Bool, true, false, Option, Some, None, arith}
use Rattle.x509_der.specs.Promises.{option_heads}
use Rattle.x509_general_names.specs.IssuingDistributionPoint.{flag, flag_heads}

pub flag_within : (o : Option Bool) (truth : Bool) → truth ≡ flag o → flag_heads truth ≤ option_heads (λ _. 1) o
flag_within (Some true) truth is = rw is (omega arith)
flag_within (Some false) truth is = rw is (omega arith)
flag_within None truth is = rw is (omega arith)
