-- Iterators over lists.
use Rattle.std.specs.Prelude.{◌≡◌, ◌<◌, ◌^◌, List, length}
use Rattle.std.specs.Iterator.Adapters.{IterYieldsInOrder, IterYieldsInReverse}
use Rattle.std.specs.Slice.Iter.{iter_rest}
use Rattle.std.specs.declared.slice.Iter.{Iter}

-- it gives references to these members, whose count fits in a `usize`, and then ends: in order from the front, in reverse from the back
abbrev pub Iterates : {T : Type 0} → Iter T → List T → Type 0
Iterates {T} result members = (iter_rest result ≡ members) × (length (iter_rest result) < 2 ^ 64) × IterYieldsInOrder T × IterYieldsInReverse T
