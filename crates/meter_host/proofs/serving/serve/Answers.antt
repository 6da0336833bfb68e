use Rattle.meter_host.proofs.Serves.{read_failed, write_failed}
use Rattle.meter_host.proofs.serving.serve.Goals as goal

pub returns-clause-read : goal.returns-clause-read
returns-clause-read g c = read_failed c.serve_all.ensures

pub returns-clause-write : goal.returns-clause-write
returns-clause-write g c = write_failed c.serve_all.ensures
