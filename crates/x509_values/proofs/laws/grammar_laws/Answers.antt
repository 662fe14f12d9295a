use Rattle.x509_der.specs.Laws.{Anywhere}
use Rattle.x509_values.specs.OctetLaws.{fixed_marked, number_marked, sized_marked}
use Rattle.x509_values.proofs.Written.{plain_is_written, plain_list_is_written}
use Rattle.x509_values.proofs.laws.grammar_laws.Goals as goal

pub returns-clause-fixed : goal.returns-clause-fixed
returns-clause-fixed c = fixed_marked Anywhere

pub returns-clause-number : goal.returns-clause-number
returns-clause-number c = number_marked Anywhere

pub returns-clause-sized : goal.returns-clause-sized
returns-clause-sized c = sized_marked Anywhere

pub returns-clause-written : goal.returns-clause-written
returns-clause-written c = plain_is_written

pub returns-clause-list_written : goal.returns-clause-list_written
returns-clause-list_written c = plain_list_is_written
