use Rattle.x509_revoked_cli.proofs.answer_serials.Goals as goal

pub returns-in-Ok : goal.returns-in-Ok
returns-in-Ok c = record { report = c.in_ok-report.report; reports = c.in_ok-report.ensures; tells = c.status.ensures }
