use Rattle.std.proofs.Common.{◌≡◌, ◌<◌, List, ℕ, length, map, ap, ◌∙◌, sym, arith}
use Rattle.x509_der.specs.Place.{at}
use Rattle.x509_der.specs.Looks.{behind}
use Rattle.x509_der.specs.Plan.{got}
use Rattle.x509_extensions.specs.Extension.{extension_of}
use Rattle.x509_extensions.specs.ExtensionList.{extensions}
use Rattle.x509_extensions.proofs.Wrappers.{ends_early, ended_there, ended_plain}
use Rattle.x509_extensions.proofs.parser.X509ExtensionParser.read_wrapped_at.Goals as goal

pub returns-then-not-is_empty-clause-reads : goal.returns-then-not-is_empty-clause-reads
returns-then-not-is_empty-clause-reads g c =
    let deep = c.args.self.now.deep_parse_extensions in
    let place = at c.args.place.now in
    let inner = c.in_ok-inner.inner.now in
    let rest = c.rest-rest.result.now in
    let list = map extension_of c.in_ok-list.list in
    let here : at c.inside-sequence.result ≡ inner = c.inside-sequence.ensures.bytes ∙ c.left-inside.ensures.bytes in
    let read : (extensions deep).read inner ≡ got list rest = ap (extensions deep).read (sym here) ∙ c.in_ok-list.ensures.reads.reads ∙ ap (got list) (sym c.rest-rest.ensures.behind) in
    let some : 0 < length place = grind arith in
    let left : 0 < length rest = grind arith in
    rw (c.refuse_at.ensures.why, c.refuse_at.ensures.left, c.left-inside.ensures.outside) (
      ends_early c.args.number deep place inner rest c.in_ok-inner.header list some c.in_ok-inner.ensures.reads read left,
      ended_there c.args.number deep g.L.Outside.adds c.args.place.now.outside place inner rest c.in_ok-inner.header list c.in_ok-inner.ensures.reads read,
    )

pub returns-clause-marks : goal.returns-clause-marks
returns-clause-marks g c =
    let deep = c.args.self.now.deep_parse_extensions in
    let place = at c.args.place.now in
    let inner = c.in_ok-inner.inner.now in
    let list = map extension_of c.in_ok-list.list in
    let here : at c.inside-sequence.result ≡ inner = c.inside-sequence.ensures.bytes ∙ c.left-inside.ensures.bytes in
    let read : (extensions deep).read inner ≡ got list (behind inner) = ap (extensions deep).read (sym here) ∙ c.in_ok-list.ensures.reads.reads ∙ ap (λ (bytes : List ℕ). got list (behind bytes)) here in
    let some : 0 < length place = grind arith in
    rw (c.closes-closes.ensures, c.in_ok-list.ensures.reads.marks, here) (ended_plain c.args.number deep place inner (behind inner) c.in_ok-inner.header list some c.in_ok-inner.ensures.reads c.in_ok-inner.ensures.marks read)
