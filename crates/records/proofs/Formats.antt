-- Both formats are lawful, and a value of either can be had back from its record. Assumes nothing.
use Rattle.std.proofs.Common.{◌≡◌, arith}
use Rattle.market.specs.declared.Event.{Event}
use Rattle.market.specs.declared.TapeRecord.{TapeRecord}
use Rattle.records.specs.Layout.{event_bytes, tape_bytes, EventFits, TapeFits}
use Rattle.records.specs.Forms.{event_form, tape_form}
use Rattle.records.specs.Formats.{LawfulFormat}
use Rattle.market.proofs.Words.{word_inverse}
use Rattle.records.specs.EventFormat as of_events
use Rattle.records.specs.TapeFormat as of_tape

pub event_inverse : (e : Event) → EventFits e → of_events.event_of (event_bytes e) ≡ e
event_inverse = of_events.event_inverse word_inverse

pub tape_inverse : (t : TapeRecord) → TapeFits t → of_tape.tape_of (tape_bytes t) ≡ t
tape_inverse = of_tape.tape_inverse word_inverse

pub event_format : LawfulFormat event_bytes EventFits event_form
event_format = of_events.event_format word_inverse

pub tape_format : LawfulFormat tape_bytes TapeFits tape_form
tape_format = of_tape.tape_format word_inverse (omega arith, omega arith)
