-- Which tags a page has goes by no text.
use Rattle.std.proofs.Common.{◌≡◌, ◌≢◌, ℕ, ◌-◌, ◌==◌, Bool, true, false, cond, List, [], ◌∷◌, ◌++◌, zero, suc, not, refl, subst, sym, ap, ◌∙◌, arith, codes}
use Rattle.std.proofs.Common.{append-nil, append_assoc}
use Rattle.std.proofs.lemmas.Bool.Decides.{nat_tests}
use Rattle.std.specs.Fmt.{decimal}
use Rattle.std.specs.Prelude.{fold}
use Rattle.json.specs.Token.{Token, begin_object, end_object, begin_array, end_array, key, string, number, boolean, null, bad}
use Rattle.x509_der.specs.Hex.{hex_text}
use Rattle.x509_elements.specs.Elements.{Line}
use Rattle.x509_report_lines.specs.Texts.{called_text}
use Rattle.x509_report_lines.specs.Lines.{truth_text}
use Rattle.x509_report_lines.specs.PageElements.{attribute, begun, closings, contents_text, element_page, folds, fold_page, leaf_page, level, mark_page}
use Rattle.x509_report_lines.specs.PageElements.{number_page, place_page, rest_of, row_page, size_of, summary_page, tag_page, type_text}
use Rattle.x509_report_lines.specs.PageEscape.{IsPlain, framed, html}
use Rattle.x509_report_lines.specs.PageMarkup.{IsMarked, begun_tags, element_tags, ends_inside, is_inside, kept, mark_tags, markup, octets_tags, row_tags, tags_in}
use Rattle.x509_report_lines.specs.PageMarkup.{tags_of}
use Rattle.x509_report_lines.specs.PageOctets.{octets_page}
use Rattle.x509_report_lines.specs.PageReports.{Members, report_page, step}
use Rattle.x509_report_lines.proofs.Plain.{hex_plain, html_plain, number_plain}

-- ---- one text behind another

tags_joined : (i : Bool) (xs ys : List ℕ) → markup i (xs ++ ys) ≡ markup i xs ++ markup (ends_inside i xs) ys
tags_joined i [] ys = refl
tags_joined i (x ∷ xs) ys = ap (λ t. kept i x ++ t) (tags_joined (is_inside i x) xs ys) ∙ sym (append_assoc (kept i x) (markup (is_inside i x) xs) (markup (ends_inside (is_inside i x) xs) ys))

end_joined : (i : Bool) (xs ys : List ℕ) → ends_inside i (xs ++ ys) ≡ ends_inside (ends_inside i xs) ys
end_joined i [] ys = refl
end_joined i (x ∷ xs) ys = end_joined (is_inside i x) xs ys

both : (xs ys a b : List ℕ) → IsMarked xs a → IsMarked ys b → IsMarked (xs ++ ys) (a ++ b)
both xs ys a b h k = record {
  are = tags_joined false xs ys ∙ ap (λ i. markup false xs ++ markup i ys) h.whole ∙ ap (λ t. t ++ markup false ys) h.are ∙ ap (λ t. a ++ t) k.are;
  whole = end_joined false xs ys ∙ ap (λ i. ends_inside i ys) h.whole ∙ k.whole;
}

-- constants
computed : {xs tags : List ℕ} → markup false xs ≡ tags → ends_inside false xs ≡ false → IsMarked xs tags
computed h k = record { are = h; whole = k }

-- ---- texts

no_tag : (b : ℕ) → b ≢ 0x3c → (b == 0x3c) ≡ false
no_tag b h = grind (arith, nat_tests, h)

unmarked : (xs : List ℕ) → IsPlain xs → IsMarked xs []
unmarked [] h = record { are = refl; whole = refl }
unmarked (x ∷ xs) h =
    let out : (x == 0x3c) ≡ false = no_tag x h.0.3 in
    let k : IsMarked xs [] = unmarked xs h.1 in
    record {
      are = ap (λ i. cond i (x ∷ []) [] ++ markup i xs) out ∙ k.are;
      whole = ap (λ i. ends_inside i xs) out ∙ k.whole;
    }

texted : (before text behind a b : List ℕ) → IsMarked before a → IsMarked behind b → IsMarked (framed before text behind) (a ++ b)
unfolding framed
texted before text behind a b h k = both before (html text ++ behind) a b h (both (html text) behind [] b (unmarked (html text) (html_plain text)) k)

-- ---- tags with numbers as attributes

-- all octets stand inside of a tag, and end none
record Within (xs : List ℕ) : Type 0 where
  stays : markup true xs ≡ xs
  on : ends_inside true xs ≡ true

stands : {xs : List ℕ} → markup true xs ≡ xs → ends_inside true xs ≡ true → Within xs
stands h k = record { stays = h; on = k }

within : (xs ys : List ℕ) → Within xs → Within ys → Within (xs ++ ys)
within xs ys h k = record {
  stays = tags_joined true xs ys ∙ ap (λ i. markup true xs ++ markup i ys) h.on ∙ ap (λ t. t ++ markup true ys) h.stays ∙ ap (λ t. xs ++ t) k.stays;
  on = end_joined true xs ys ∙ ap (λ i. ends_inside i ys) h.on ∙ k.on;
}

no_end : (b : ℕ) → b ≢ 0x3e → (b == 0x3e) ≡ false
no_end b h = grind (arith, nat_tests, h)

plain_within : (xs : List ℕ) → IsPlain xs → Within xs
plain_within [] h = record { stays = refl; on = refl }
plain_within (x ∷ xs) h =
    let goes : (x == 0x3e) ≡ false = no_end x h.0.4 in
    let k : Within xs = plain_within xs h.1 in
    record {
      stays = ap (λ (b : Bool). x ∷ markup (not b) xs) goes ∙ ap (λ t. x ∷ t) k.stays;
      on = ap (λ (b : Bool). ends_inside (not b) xs) goes ∙ k.on;
    }

whole_tag : (xs : List ℕ) → Within xs → IsMarked (codes "<" ++ (xs ++ codes ">")) (codes "<" ++ (xs ++ codes ">"))
whole_tag xs h = record {
  are = ap (λ t. codes "<" ++ t) (tags_joined true xs (codes ">") ∙ ap (λ i. markup true xs ++ markup i (codes ">")) h.on ∙ ap (λ t. t ++ codes ">") h.stays);
  whole = end_joined true xs (codes ">") ∙ ap (λ i. ends_inside i (codes ">")) h.on;
}

numbered : (name : List ℕ) (n : ℕ) → Within name → Within (attribute name n)
unfolding attribute
numbered name n h =
    within (codes " data-") (name ++ (codes "=\"" ++ (decimal n ++ codes "\""))) (stands refl refl)
    (within name (codes "=\"" ++ (decimal n ++ codes "\"")) h
    (within (codes "=\"") (decimal n ++ codes "\"") (stands refl refl)
    (within (decimal n) (codes "\"") (plain_within (decimal n) (number_plain n)) (stands refl refl))))

placed : (l : Line) → Within (place_page l)
unfolding place_page
placed l =
    within (attribute (codes "at") l.offset) (attribute (codes "size") (size_of l.what) ++ attribute (codes "rest") (rest_of l)) (numbered (codes "at") l.offset (stands refl refl))
    (within (attribute (codes "size") (size_of l.what)) (attribute (codes "rest") (rest_of l)) (numbered (codes "size") (size_of l.what) (stands refl refl))
    (numbered (codes "rest") (rest_of l) (stands refl refl)))

-- ---- elements

line_tag : (words : List ℕ) (l : Line) → Within words → IsMarked (tag_page words l) (tag_page words l)
unfolding tag_page
line_tag words l h =
    subst (λ t. IsMarked (codes "<" ++ t) (codes "<" ++ t)) (append_assoc words (place_page l) (codes ">"))
    (whole_tag (words ++ place_page l) (within words (place_page l) h (placed l)))

number_tags : (n : ℕ) → IsMarked (number_page n) (codes "<b></b>")
unfolding number_page
number_tags n = both (codes "<b>") (decimal n ++ codes "</b> ") (codes "<b>") (codes "</b>") (computed refl refl)
    (both (decimal n) (codes "</b> ") [] (codes "</b>") (unmarked (decimal n) (number_plain n)) (computed refl refl))

row : (l : Line) → IsMarked (row_page l) row_tags
unfolding row_page
row l =
    let kind = framed (codes "<code>") (type_text l.what) (codes "</code>") in
    let called = framed (codes "<i>") (called_text l.called) (codes "</i>") in
    let contents = framed (codes "<span>") (contents_text l) (codes "</span>") in
    both (number_page l.offset) (kind ++ (called ++ contents)) (codes "<b></b>") (codes "<code></code><i></i><span></span>") (number_tags l.offset)
    (both kind (called ++ contents) (codes "<code></code>") (codes "<i></i><span></span>")
    (texted (codes "<code>") (type_text l.what) (codes "</code>") (codes "<code>") (codes "</code>") (computed refl refl) (computed refl refl))
    (both called contents (codes "<i></i>") (codes "<span></span>")
    (texted (codes "<i>") (called_text l.called) (codes "</i>") (codes "<i>") (codes "</i>") (computed refl refl) (computed refl refl))
    (texted (codes "<span>") (contents_text l) (codes "</span>") (codes "<span>") (codes "</span>") (computed refl refl) (computed refl refl))))

summary : (l : Line) → IsMarked (summary_page l) (codes "<summary>" ++ (row_tags ++ codes "</summary>"))
unfolding summary_page
summary l = both (codes "<summary>") (row_page l ++ codes "</summary>") (codes "<summary>") (row_tags ++ codes "</summary>") (computed refl refl)
    (both (row_page l) (codes "</summary>") row_tags (codes "</summary>") (row l) (computed refl refl))

leaf : (l : Line) → IsMarked (leaf_page l) (tag_page (codes "div") l ++ (row_tags ++ codes "</div>"))
unfolding leaf_page
leaf l = both (tag_page (codes "div") l) (row_page l ++ codes "</div>") (tag_page (codes "div") l) (row_tags ++ codes "</div>") (line_tag (codes "div") l (stands refl refl))
    (both (row_page l) (codes "</div>") row_tags (codes "</div>") (row l) (computed refl refl))

fold_begins : (l : Line) → IsMarked (fold_page l) (tag_page (codes "details open") l ++ (codes "<summary>" ++ (row_tags ++ codes "</summary>")))
fold_begins l = both (tag_page (codes "details open") l) (summary_page l) (tag_page (codes "details open") l) (codes "<summary>" ++ (row_tags ++ codes "</summary>"))
    (line_tag (codes "details open") l (stands refl refl)) (summary l)

either : (b : Bool) (x y a c : List ℕ) → IsMarked x a → IsMarked y c → IsMarked (cond b x y) (cond b a c)
either true x y a c h k = h
either false x y a c h k = k

ends : (n : ℕ) → IsMarked (closings n) (closings n)
unfolding closings
ends zero = record { are = refl; whole = refl }
ends (suc n) = both (closings n) (codes "</details>") (closings n) (codes "</details>") (ends n) (computed refl refl)

-- which tags a line of a dump has goes by its place, its depth and whether elements stand in it: no name, value or word adds or ends one
pub element_marked : (opened : ℕ) (l : Line) → IsMarked (element_page opened l) (element_tags opened l)
unfolding element_page
element_marked opened l = both (closings (opened - level l)) (begun l) (closings (opened - level l)) (begun_tags l) (ends (opened - level l))
    (either (folds l) (fold_page l) (leaf_page l) _ _ (fold_begins l) (leaf l))

-- those of a mark by its octet
pub mark_marked : (at : ℕ) (words : List ℕ) → IsMarked (mark_page at words) (mark_tags at)
unfolding mark_page
mark_marked at words =
    let begin = codes "<p" ++ (attribute (codes "at") at ++ codes ">") in
    let rest = number_page at ++ framed (codes "<strong>") words (codes "</strong></p>") in
    let tag : IsMarked begin begin = whole_tag (codes "p" ++ attribute (codes "at") at) (within (codes "p") (attribute (codes "at") at) (stands refl refl) (numbered (codes "at") at (stands refl refl))) in
    subst (λ t. IsMarked (codes "<p" ++ t) (mark_tags at)) (append_assoc (attribute (codes "at") at) (codes ">") rest)
    (both begin rest begin (codes "<b></b><strong></strong></p>") tag
    (both (number_page at) (framed (codes "<strong>") words (codes "</strong></p>")) (codes "<b></b>") (codes "<strong></strong></p>") (number_tags at)
    (texted (codes "<strong>") words (codes "</strong></p>") (codes "<strong>") (codes "</strong></p>") (computed refl refl) (computed refl refl))))

-- those of the octets are always the same
pub octets_marked : (octets : List ℕ) → IsMarked (octets_page octets) octets_tags
unfolding octets_page
octets_marked octets =
    both (codes "<details class=\"octets\"><summary>octets</summary><pre>") (hex_text [] octets ++ codes "</pre></details>") (codes "<details class=\"octets\"><summary></summary><pre>") (codes "</pre></details>") (computed refl refl)
    (both (hex_text [] octets) (codes "</pre></details>") [] (codes "</pre></details>") (unmarked (hex_text [] octets) (hex_plain octets)) (computed refl refl))

-- ---- reports

valued : (name shown tags : List ℕ) → IsMarked shown tags → IsMarked (framed (codes "<div><b>") name (codes "</b> <span>") ++ (shown ++ codes "</span></div>")) (codes "<div><b></b><span>" ++ (tags ++ codes "</span></div>"))
valued name shown tags h = both (framed (codes "<div><b>") name (codes "</b> <span>")) (shown ++ codes "</span></div>") (codes "<div><b></b><span>") (tags ++ codes "</span></div>")
    (texted (codes "<div><b>") name (codes "</b> <span>") (codes "<div><b>") (codes "</b><span>") (computed refl refl) (computed refl refl))
    (both shown (codes "</span></div>") tags (codes "</span></div>") h (computed refl refl))

-- a page behind a value
behind_value : (page name shown tags more : List ℕ) → IsMarked page tags → IsMarked shown more
    → IsMarked (((page ++ framed (codes "<div><b>") name (codes "</b> <span>")) ++ shown) ++ codes "</span></div>") (tags ++ (codes "<div><b></b><span>" ++ (more ++ codes "</span></div>")))
behind_value page name shown tags more h k =
    let value = framed (codes "<div><b>") name (codes "</b> <span>") in
    subst (λ t. IsMarked t (tags ++ (codes "<div><b></b><span>" ++ (more ++ codes "</span></div>"))))
    (sym (append_assoc page value (shown ++ codes "</span></div>")) ∙ sym (append_assoc (page ++ value) shown (codes "</span></div>")))
    (both page (value ++ (shown ++ codes "</span></div>")) tags (codes "<div><b></b><span>" ++ (more ++ codes "</span></div>")) h (valued name shown more k))

opens : (name : List ℕ) → IsMarked (framed (codes "<details open><summary>") name (codes "</summary>")) (codes "<details open><summary></summary>")
opens name = texted (codes "<details open><summary>") name (codes "</summary>") (codes "<details open><summary>") (codes "</summary>") (computed refl refl) (computed refl refl)

stepped : (m : Members) (t : Token) (tags : List ℕ) → IsMarked m.page tags → IsMarked (step m t).page (tags ++ tags_of t)
unfolding step
stepped m begin_object tags h = both m.page _ tags (codes "<details open><summary></summary>") h (opens m.key)
stepped m end_object tags h = both m.page (codes "</details>") tags (codes "</details>") h (computed refl refl)
stepped m begin_array tags h = both m.page _ tags (codes "<details open><summary></summary>") h (opens m.key)
stepped m end_array tags h = both m.page (codes "</details>") tags (codes "</details>") h (computed refl refl)
stepped m (key k) tags h = subst (λ t. IsMarked m.page t) (sym (append-nil tags)) h
stepped m (string s) tags h = behind_value m.page m.key (html s) tags [] h (unmarked (html s) (html_plain s))
stepped m (number n) tags h = behind_value m.page m.key (html n) tags [] h (unmarked (html n) (html_plain n))
stepped m (boolean b) tags h = behind_value m.page m.key (html (truth_text b)) tags [] h (unmarked (html (truth_text b)) (html_plain (truth_text b)))
stepped m null tags h = behind_value m.page m.key (codes "<i>none</i>") tags (codes "<i></i>") h (computed refl refl)
stepped m bad tags h = subst (λ t. IsMarked m.page t) (sym (append-nil tags)) h

from : (m : Members) (ts : List Token) (tags : List ℕ) → IsMarked m.page tags → IsMarked (fold step m ts).page (tags ++ tags_in ts)
from m [] tags h = subst (λ t. IsMarked m.page t) (sym (append-nil tags)) h
from m (t ∷ ts) tags h = subst (λ x. IsMarked (fold step (step m t) ts).page x) (append_assoc tags (tags_of t) (tags_in ts)) (from (step m t) ts (tags ++ tags_of t) (stepped m t tags h))

-- which tags a report has goes by which tokens it has: no key, text or number adds or ends one
pub report_marked : (ts : List Token) → IsMarked (report_page ts) (tags_in ts)
report_marked ts = from (record { page = []; key = [] }) ts [] (computed refl refl)
