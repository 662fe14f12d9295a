use Rattle.std.proofs.Common.{◌≡◌, ◌++◌, ◌+◌, [], ◌∷◌, ℕ, List, take, length, map, ap, ◌∙◌, sym, subst, arith}
use Rattle.std.proofs.lemmas.List.{take_more, map-append, length-map, take_all}
use Rattle.std.proofs.lemmas.List.Sorted.{IsPermutation-map, length_permutation}
use Rattle.std.specs.List.Sorted.{IsPermutation}
use Rattle.x509_der.specs.Unsigned.{unsigned_number}
use Rattle.x509_lists.specs.FindRevoked.{serial_numbers}
use Rattle.x509_lists.specs.RevokedCertificate.{revoked_of}
use Rattle.x509_lists.specs.declared.revoked_certificate.RevokedCertificate.{RevokedCertificate}
use Rattle.x509_revoked.specs.Entries.{indexed, indexed_from}
use Rattle.x509_revoked.proofs.HeadedOrder.{indexed_sorted}
use Rattle.x509_revoked.proofs.Least.{indexed_more, length_indexed, answers_first}
use Rattle.x509_revoked.proofs.Ranked.{ranked_sorted, ties_of, order_of}
use Rattle.x509_revoked.proofs.index.RevocationIndex.from_entries.Goals as goal

numbers_of : List RevokedCertificate → List ℕ
numbers_of revoked = serial_numbers (map revoked_of revoked)

numbers_more : (xs : List RevokedCertificate) (x : RevokedCertificate) → numbers_of (xs ++ x ∷ []) ≡ numbers_of xs ++ unsigned_number x.user_certificate ∷ []
unfolding numbers_of
numbers_more xs x = ap serial_numbers (map-append revoked_of xs (x ∷ [])) ∙ map-append _ (map revoked_of xs) (revoked_of x ∷ [])

pub loop-certificate-preserved : goal.loop-certificate-preserved
unfolding numbers_of
loop-certificate-preserved c =
    let revoked = c.args.revoked.now in
    let i = c.loop-certificate.certificate-index in
    let held = c.loop-certificate.entries.items in
    let entry = c.new-entry.result in
    let certificate : RevokedCertificate = c.certificate-item.result in
    let before : List ℕ = numbers_of (take i revoked) in
    let number = unsigned_number certificate.user_certificate in
    let so_far : map indexed held ≡ indexed_from 0 before = c.loop-certificate.invariant in
    let held_before : length held ≡ length before = sym (length-map held indexed) ∙ ap length so_far ∙ length_indexed 0 before in
    let count : c.len.result ≡ 0 + length before = omega (arith, c.len.ensures, held_before) in
    let items : c.push.new.self.items ≡ held ++ entry ∷ [] = grind (arith, c.push.ensures.items, c.is_err.ensures, c.if-is_err.false) in
    let pushed : map indexed c.push.new.self.items ≡ map indexed held ++ indexed entry ∷ [] = ap (map indexed) items ∙ map-append indexed held (entry ∷ []) in
    let one : indexed entry ≡ record { number = number; position = 0 + length before } = c.new-entry.ensures ∙ ap (λ p. record { number = number; position = p }) count in
    let more : numbers_of (take (i + 1) revoked) ≡ before ++ number ∷ [] =
    ap numbers_of (take_more revoked i certificate c.loop-certificate-test.true ∙ ap (λ x. take i revoked ++ x ∷ []) (sym c.certificate-item.is)) ∙ numbers_more (take i revoked) certificate in
    pushed ∙ ap (λ xs. xs ++ indexed entry ∷ []) so_far ∙ ap (λ x. indexed_from 0 before ++ x ∷ []) one ∙ sym (indexed_more 0 before number) ∙ ap (indexed_from 0) (sym more)

pub invariant_of-result : goal.invariant_of-result
invariant_of-result c = record {
  in_order = order_of _
      (ranked_sorted indexed c.sort_unstable.new.self.items (indexed_sorted c.sort_unstable.new.self.items c.sort_unstable.ensures.sorted));
}

pub returns : goal.returns
unfolding numbers_of
returns c =
    let revoked = c.args.revoked.now in
    let numbers = numbers_of revoked in
    let held = c.loop-certificate.entries.items in
    let sorted = c.sort_unstable.new.self.items in
    let all : map indexed held ≡ indexed_from 0 numbers =
    c.loop-certificate.invariant ∙ ap (λ xs. indexed_from 0 (numbers_of xs)) (take_all c.loop-certificate.certificate-index revoked c.loop-certificate-test.false) in
    let moved : IsPermutation (indexed_from 0 numbers) (map indexed sorted) = subst (λ xs. IsPermutation xs (map indexed sorted)) all (IsPermutation-map indexed held sorted c.sort_unstable.ensures.permutation) in
    record {
      count = length_permutation held sorted c.sort_unstable.ensures.permutation ∙ sym (length-map held indexed) ∙ ap length all ∙ length_indexed 0 numbers;
      entries = moved;
      answers = answers_first (map indexed sorted) numbers moved
          (ties_of (map indexed sorted) (ranked_sorted indexed sorted (indexed_sorted sorted c.sort_unstable.ensures.sorted)));
    }
