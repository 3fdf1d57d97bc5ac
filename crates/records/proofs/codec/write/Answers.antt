use Rattle.records.proofs.Trips.{written}
use Rattle.records.proofs.codec.write.Goals as goal

pub returns : goal.returns
returns g c = written g.met.T.Record.lawful _ _ c.to_bytes.ensures.bytes c.to_bytes.ensures.fits
