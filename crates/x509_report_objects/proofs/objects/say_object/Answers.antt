-- One part behind another.
use Rattle.std.proofs.Common.{◌++◌, ◌∷◌, [], ap, sym, ◌∙◌}
use Rattle.json.specs.Token.{begin_object, end_object}
use Rattle.x509_report_lines.specs.Says.{members_said}
use Rattle.x509_report_objects.specs.Attempts.{found_of}
use Rattle.x509_report_objects.specs.Objects.{found_members, kind_word, object_report, part_of, standing_members}
use Rattle.x509_report_objects.specs.Places.{octets_members, place_members}
use Rattle.x509_report_objects.proofs.Members.{members_appended, members_end}
use Rattle.x509_report_objects.proofs.objects.say_object.Goals as goal

pub returns : goal.returns
unfolding object_report
returns g c = λ kept.
    let end = c.end_object.ensures kept in
    let said_found = c.say_found.ensures end.0 in
    let said_members = c.say_members.ensures said_found.0 in
    let said_standing = c.say_standing.ensures said_members.0 in
    let said_octets = c.say_octets.ensures said_standing.0 in
    let said_place = c.say_place.ensures said_octets.0 in
    let begin = c.begin_object.ensures said_place.0 in
    let telling = g.T.Reported.telling in
    let seen = c.args.seen.now in
    let begun = c.args.out.now.so_far ++ begin_object ∷ [] in
    let found = found_of c.args.place.now in
    let place = place_members (kind_word telling.kind) found in
    let octets = octets_members c.args.wishes.now.fingerprints found seen.octets.now in
    let standing = standing_members seen.plain seen.rest.now in
    let members = telling.members c.args.wishes.now.fingerprints (g.T.Reported.view c.args.object.now) in
    let refused = found_members seen.plain seen.refused (part_of telling.kind) seen.octets.now in
    let fields = members_said (members_said (members_said (members_said begun place) octets) standing) members in (
      begin.0,
      end.1
          ∙ ap (λ ts. ts ++ end_object ∷ []) (said_found.1
          ∙ ap (λ ts. members_said ts (found_members seen.plain seen.refused c.part.result seen.octets.now)) (said_members.1
          ∙ ap (λ ts. members_said ts members) (said_standing.1
          ∙ ap (λ ts. members_said ts standing) (said_octets.1
          ∙ ap (λ ts. members_said ts octets) (said_place.1
          ∙ ap (λ ts. members_said ts (place_members c.word.result.now found)) begin.1
          ∙ ap (λ word. members_said begun (place_members word found)) (c.word.ensures ∙ ap kind_word c.kind-kind.ensures)))))
          ∙ ap (λ part. members_said fields (found_members seen.plain seen.refused part seen.octets.now)) (c.part.ensures ∙ ap part_of c.kind-kind.ensures)
          ∙ sym (members_appended (members_said (members_said (members_said begun place) octets) standing) members refused))
          ∙ sym (members_end begun (place ++ octets ++ standing ++ members ++ refused)),
    )
