use Rattle.std.proofs.Common.{[], ◌∙◌, arith}
use Rattle.frame_log.proofs.Bytes.{ends_within}
use Rattle.frame_log.proofs.ReadLemmas.{if_some}
use Rattle.frame_log.proofs.ScanLemmas.{settled_frames}
use Rattle.frame_log.proofs.Steps.{good_leaves}
use Rattle.frame_log.proofs.frame_reader.FrameReader.into_log.Goals as goal

pub returns-clause-opens : goal.returns-clause-opens
returns-clause-opens g c bodies old new at_end has read =
    let log = c.ending.result in
    let file = c.args.self.file in
    let up = c.ending.ensures.up in
    let (same_file, same_end) = c.ending.ensures.place in
    let within = if_some (g.D.Disk.seen old) has (λ image frames.
    ends_within bodies (image file) c.args.self.gate at_end frames) in
    record {
      of_file = same_file;
      up = up;
      place = same_end ∙ at_end;
      within = rw (read.same, same_file, same_end)
          (if_some (g.D.Disk.seen old) within (λ image lt. omega (arith, lt)));
      holds = λ told settled. record {
        good = up;
        represents = record {
          told = rw read.same told;
          at_end = same_end ∙ at_end;
          images = λ d left. good_leaves log.state bodies [] (d log.file) up
              (rw same_file (settled_frames (g.D.Disk.seen old) (g.D.Disk.may_leave old) file bodies told has settled d
              (read.fewer d left)));
        };
      };
    }
