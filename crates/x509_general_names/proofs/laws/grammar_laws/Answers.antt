use Rattle.x509_general_names.specs.AlternativeNamesLaws.{general_names_laws}
use Rattle.x509_general_names.specs.GeneralNameLaws.{alternative_laws, general_name_laws}
use Rattle.x509_general_names.proofs.laws.grammar_laws.Goals as goal

pub returns-clause-alternatives : goal.returns-clause-alternatives
returns-clause-alternatives c = alternative_laws

pub returns-clause-general_name : goal.returns-clause-general_name
returns-clause-general_name c = general_name_laws

pub returns-clause-general_names : goal.returns-clause-general_names
returns-clause-general_names c = general_names_laws
