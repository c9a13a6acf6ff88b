use Rattle.std.proofs.Common.{◌≡◌, ◌+◌, ◌∙◌, length, take, drop, IfSome, length-drop, rules, arith}
use Rattle.std.proofs.lemmas.List.{take_at}
use Rattle.frame_log.specs.Scanned.{HasSize}
use Rattle.frame_log.proofs.ReadLemmas.{if_some_three, only_read_more}
use Rattle.frame_log.proofs.FrameLemmas.{further, begins_with}
use Rattle.frame_log.proofs.next_frame.next_body.Goals as goal

pub returns-in_err-size-clause-read : goal.returns-in_err-size-clause-read
returns-in_err-size-clause-read g c =
    only_read_more g.D.Disk _ _ _ c.is_open.ensures.read
    c.size_at.ensures.read

pub returns-in_err-body-clause-read : goal.returns-in_err-body-clause-read
returns-in_err-body-clause-read g c =
    only_read_more g.D.Disk _ _ _ c.is_open.ensures.read
    c.size_at.ensures.read

pub returns-in_err-fill-clause-read : goal.returns-in_err-fill-clause-read
returns-in_err-fill-clause-read g c =
    let both = only_read_more g.D.Disk _ _ _
    c.is_open.ensures.read c.size_at.ensures.read in
    only_read_more g.D.Disk _ _ _ both c.fill.ensures.read

pub returns-clause-read : goal.returns-clause-read
returns-clause-read g c =
    let both = only_read_more g.D.Disk _ _ _
    c.is_open.ensures.read c.size_at.ensures.read in
    only_read_more g.D.Disk _ _ _ both c.fill.ensures.read

-- the body was read behind its length
pub returns-clause-found : goal.returns-clause-found
returns-clause-found g c =
    let gate = c.args.gate in
    let size = c.in_ok-size.size in
    let out = c.fill.new.out in
    let same = c.size_at.ensures.read.same ∙ c.is_open.ensures.read.same in
    let said : IfSome (g.D.Disk.seen c.args.disk.now) (λ image. HasSize (drop gate (image c.args.file)) size) =
    rw (← c.is_open.ensures.read.same) c.in_ok-size.ensures.size in
    let sized : length c.deref_mut.result.now ≡ size = search rules in
    let there : IfSome (g.D.Disk.seen c.args.disk.now) (λ image. out ≡ take size
    (drop (gate + 9) (image c.args.file))) =
    rw (← same, ← sized) c.in_ok-fill.ensures.bytes in
    let whole : length out ≡ c.in_ok-body.body.len = search rules in
    let body = take_at out (drop (length out) c.in_ok-body.body.items) c.in_ok-body.body.len whole in
    if_some_three (g.D.Disk.seen c.args.disk.now) c.requires.told said there (λ image told said read.
    let bytes = image c.args.file in
    rw body (begins_with (drop gate bytes) out size said (omega
    (arith, told, c.in_ok-size.ensures.inside, length-drop gate bytes)) (read ∙ further bytes gate 9 size)))
