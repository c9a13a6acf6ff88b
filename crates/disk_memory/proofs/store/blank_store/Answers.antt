use Rattle.std.proofs.Common.{◌∙◌, sym, arith}
use Rattle.disk_memory.proofs.store.blank_store.Goals as goal

pub returns : goal.returns
returns c =
    let contents = c.in_ok-contents.contents in
    record {
      logs = λ file lt. c.in_ok-new.ensures.reads file ∙ c.in_ok-contents.ensures.blank file
          (omega (arith, lt, contents.ok.0, c.in_ok-contents.ensures.len));
      settled = λ file lt image may. c.in_ok-new.ensures.sure image may file ∙ sym (c.in_ok-new.ensures.reads file);
      files = c.new-3.ensures.holds;
    }
