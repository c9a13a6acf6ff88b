use Rattle.std.proofs.Common.{◌≡◌, ◌<◌, ◌∙◌, refl, sym, ap, ℕ, length, take, drop, IfSome, arith}
use Rattle.std.proofs.lemmas.List.{take_all}
use Rattle.frame_log.specs.Scanned.{IsRead}
use Rattle.frame_log.proofs.ReadLemmas.{if_some, if_some_both, if_some_all, only_read_same, only_read_more}
use Rattle.frame_log.proofs.reading.fill.Goals as goal

pub loop-done-init : goal.loop-done-init
loop-done-init g c =
    let laws = g.met.D.Disk g.world.𝓛 g.world.𝓜 g.world.𝓡 ((λ s x. x), (λ x. x), (λ x. x), λ x. x) in
    record {
      read = only_read_same g.D.Disk c.args.disk.now
          (laws.only_now c.args.disk.now);
      len = refl;
      within = omega arith;
      bytes = if_some_all (g.D.Disk.seen c.args.disk.now) (λ image. refl);
      later = omega arith;
    }

pub read_more-requires-clause-within : goal.read_more-requires-clause-within
read_more-requires-clause-within g c lives live =
    let far = c.loop-done.invariant in
    rw (far.read.same, far.len) c.requires.within

pub returns-in_err-next-clause-read : goal.returns-in_err-next-clause-read
returns-in_err-next-clause-read g c =
    only_read_more g.D.Disk _ _ _
    c.loop-done.invariant.read c.read_more.ensures.read

pub returns-in_err-next-clause-cause : goal.returns-in_err-next-clause-cause
returns-in_err-next-clause-cause g c = record {
  later = omega (arith, c.loop-done.invariant.later, c.read_more.ensures.cause.later);
  rose = λ is. omega (arith, c.loop-done.invariant.later, c.in_err-next.ensures.cause.failed);
}

-- a told disk gives a byte before the end
pub returns-then-next-done-clause-refused : goal.returns-then-next-done-clause-refused
returns-then-next-done-clause-refused g c =
    let far = c.loop-done.invariant in
    let on : IfSome (g.D.Disk.seen c.args.disk.now) (λ image. c.loop-done.done < c.in_ok-next.next) = rw
    (← far.read.same) c.in_ok-next.ensures.on in
    if_some (g.D.Disk.seen c.args.disk.now) on (λ image lt. absurd (omega (arith, lt)))

pub returns-then-next-done-clause-read : goal.returns-then-next-done-clause-read
returns-then-next-done-clause-read g c =
    only_read_more g.D.Disk _ _ _
    c.loop-done.invariant.read c.read_more.ensures.read

pub returns-then-next-done-clause-cause : goal.returns-then-next-done-clause-cause
returns-then-next-done-clause-cause g c = record {
  later = omega (arith, c.loop-done.invariant.later, c.read_more.ensures.cause.later);
  rose = λ is. absurd (cc);
}

pub loop-done-smaller : goal.loop-done-smaller
loop-done-smaller g c =
    omega (arith, c.loop-done.invariant.len, c.in_ok-next.ensures.fits)

pub loop-done-preserved : goal.loop-done-preserved
loop-done-preserved g c =
    let far = c.loop-done.invariant in
    let next : IfSome (g.D.Disk.seen c.args.disk.now) (λ image. IsRead (image c.args.file) c.args.place
    c.loop-done.done c.loop-done.out → IsRead (image c.args.file) c.args.place c.in_ok-next.next
    c.read_more.new.out) = rw (← far.read.same) c.in_ok-next.ensures.bytes in
    record {
      read = only_read_more g.D.Disk _ _ _ far.read
          c.read_more.ensures.read;
      len = c.read_more.ensures.len ∙ far.len;
      within = omega (arith, c.in_ok-next.ensures.fits, c.read_more.ensures.len);
      bytes = if_some_both (g.D.Disk.seen c.args.disk.now) far.bytes next (λ image is then. then is);
      later = omega (arith, far.later, c.read_more.ensures.cause.later);
    }

pub returns-clause-bytes : goal.returns-clause-bytes
returns-clause-bytes g c =
    let far = c.loop-done.invariant in
    let full : c.loop-done.done ≡ length c.args.out.now = omega (arith, far.within, far.len) in
    if_some (g.D.Disk.seen c.args.disk.now) far.bytes (λ image is.
    sym (take_all c.loop-done.done c.loop-done.out (omega (arith, full, far.len))) ∙ is ∙ ap
    (λ (n : ℕ). take n (drop c.args.place (image c.args.file))) full)

pub returns-clause-read : goal.returns-clause-read
returns-clause-read g c =
    c.loop-done.invariant.read

pub returns-clause-cause : goal.returns-clause-cause
returns-clause-cause g c =
    record { later = c.loop-done.invariant.later; rose = λ is. absurd (cc) }
