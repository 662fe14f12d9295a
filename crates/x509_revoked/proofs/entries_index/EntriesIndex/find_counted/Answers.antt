use Rattle.std.proofs.Common.{length}
use Rattle.x509_der.specs.Unsigned.{unsigned_number}
use Rattle.x509_revoked.specs.HeadedEntries.{offsets_of}
use Rattle.x509_revoked.proofs.Placed.{index_in_order, index_answers}
use Rattle.x509_revoked.proofs.entries_index.EntriesIndex.find_counted.Goals as goal

pub search-requires : goal.search-requires
search-requires c = index_in_order c.args.self.now.octets.now (offsets_of c.args.self.now.entries.items) c.args.self.now.is_index

pub returns-clause-found : goal.returns-clause-found
returns-clause-found c =
    let index = c.args.self.now in
    index_answers index.octets.now (offsets_of index.entries.items) (length index.entries.items) index.holds index.is_index
    (unsigned_number c.args.serial.now) c.search.result.0 c.search.ensures.found
