use Rattle.std.proofs.Common.{◌≡◌, ◌<◌, ◌^◌, ◌++◌, ◌∙◌, ◌∷◌, [], take, drop, length, sym, ap, subst, append_assoc, arith}
use Rattle.std.specs.List.{All}
use Rattle.std.specs.Int.{w32, to_be_bytes, from_be_bytes}
use Rattle.std.proofs.lemmas.List.{take-append-drop, length-take}
use Rattle.std.proofs.lemmas.List.Elements.{All-nil, All-push}
use Rattle.std.proofs.lemmas.Nat.{be_bytes_4}
use Rattle.x509_der.proofs.Results.{bytes_behind, bytes_before}
use Rattle.x509_revoked.specs.IndexFile.{offset_octets}
use Rattle.x509_revoked.proofs.Codes.{offsets_more}
use Rattle.x509_revoked.proofs.index_file.take_offsets.Goals as goal

pub loop-offset-init : goal.loop-offset-init
loop-offset-init c = record {
  read = ap (λ xs. offset_octets xs ++ c.args.octets.now) (sym c.in-Ok.ensures.items);
  fit = subst (All (λ o. o < 2 ^ 32)) (sym c.in-Ok.ensures.items) (All-nil (λ o. o < 2 ^ 32));
}

pub loop-offset-preserved : goal.loop-offset-preserved
loop-offset-preserved c =
    let left = c.loop-offset.left.now in
    let held = c.loop-offset.offsets.items in
    let offset = c.from_be_bytes.result in
    let behind = c.in-Some.behind.now in
    let four : c.in-Some.offset.now ≡ take 4 left = c.in-Some.ensures.cases.0 in
    let bytes = bytes_before left (take 4 left) (drop 4 left) (sym (take-append-drop 4 left)) (bytes_behind c.args.octets.now (offset_octets held) left c.loop-offset.invariant.read (λ i. omega (arith, c.type_inv.octets i))) in
    let many : length (take 4 left) ≡ 4 = omega (arith, length-take 4 left, c.in-Some.ensures.cases.2) in
    let written : to_be_bytes w32 offset ≡ take 4 left = be_bytes_4 (take 4 left) offset many bytes (c.from_be_bytes.ensures ∙ ap (from_be_bytes w32) four) in
    let pushed : c.push.new.self.items ≡ held ++ offset ∷ [] = grind (arith, c.push.ensures.items, c.is_err.ensures, c.if-is_err.false) in
    let parts : left ≡ to_be_bytes w32 offset ++ behind = sym (take-append-drop 4 left) ∙ ap (λ x. x ++ drop 4 left) (sym written) ∙ ap (λ x. to_be_bytes w32 offset ++ x) (sym c.in-Some.ensures.cases.1) in
    record {
      read = c.loop-offset.invariant.read ∙ ap (λ x. offset_octets held ++ x) parts ∙ sym (append_assoc (offset_octets held) (to_be_bytes w32 offset) behind) ∙ ap (λ x. x ++ behind) (sym (offsets_more held offset) ∙ ap offset_octets (sym pushed));
      fit = subst (All (λ o. o < 2 ^ 32)) (sym pushed) (All-push (λ o. o < 2 ^ 32) held offset c.loop-offset.invariant.fit (omega (arith, c.from_be_bytes.type_inv)));
    }
