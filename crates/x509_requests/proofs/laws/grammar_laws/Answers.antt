use Rattle.x509_requests.specs.AttributeLaws.{attribute_laws}
use Rattle.x509_requests.specs.PasswordTexts.{password_laws}
use Rattle.x509_requests.specs.RequestInfo.{request_info_laws}
use Rattle.x509_requests.specs.Request.{certification_request_laws}
use Rattle.x509_requests.proofs.Windows.{info_window, request_stands}
use Rattle.x509_requests.proofs.laws.grammar_laws.Goals as goal

pub returns-clause-attribute : goal.returns-clause-attribute
returns-clause-attribute c = attribute_laws

pub returns-clause-password : goal.returns-clause-password
returns-clause-password c = password_laws

pub returns-clause-request_info : goal.returns-clause-request_info
returns-clause-request_info c = request_info_laws

pub returns-clause-certification_request : goal.returns-clause-certification_request
returns-clause-certification_request c = certification_request_laws

pub returns-clause-info_window : goal.returns-clause-info_window
returns-clause-info_window c = info_window

pub returns-clause-request_stands : goal.returns-clause-request_stands
returns-clause-request_stands c = request_stands
