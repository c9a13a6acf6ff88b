use Rattle.byte_formats.proofs.Texts.{text_kept, text_unkept}
use Rattle.byte_formats.proofs.reader.Reader.text.Goals as goal

pub returns-in-Ok : goal.returns-in-Ok
returns-in-Ok c =
    rw c.in-Ok.ensures.cases.0
    (text_kept c.args.self.now c.in_ok-bytes.field-0.now c.bytes.new.self c.in_ok-bytes.ensures c.in-Ok.ensures.cases.1)

pub returns-in-Err : goal.returns-in-Err
returns-in-Err c =
    rw c.left-left.ensures
    (text_unkept c.args.self.now c.in_ok-bytes.field-0.now c.bytes.new.self c.in_ok-bytes.ensures
    c.in-Err.ensures.cases.0)
