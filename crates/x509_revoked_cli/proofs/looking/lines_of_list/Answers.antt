use Rattle.x509_lists.specs.ListEntries.{list_entries_of}
use Rattle.x509_revoked_cli.proofs.looking.lines_of_list.Goals as goal

pub returns-in-Ok-report_serials : goal.returns-in-Ok-report_serials
returns-in-Ok-report_serials c = record {
  list = list_entries_of c.in-Ok.list;
  rest = c.in-Ok.field-0-0.now;
  front = c.in-Ok.ensures.exact.reads.accepted;
  search = c.in_ok-search.search;
  looks = c.in_ok-search.ensures;
  reports = c.in-Ok-report_serials.ensures;
}
