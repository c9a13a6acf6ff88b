use Rattle.std.proofs.Common.{refl}
use Rattle.journal_bodies.proofs.root_writing.root_body.Goals as goal

pub returns : goal.returns
returns c = record {
  rules = c.requires;
  ranges = record {
    front = c.in_ok-put_numbers.ensures.ranges;
    save_at = c.in_ok-put_settings.ensures.limits.0;
    merge_at = c.in_ok-put_settings.ensures.limits.1;
    fragments = rw c.as_slice.ensures at c.in_ok-put_parts.ensures.ranges;
    names = c.in_ok-put_settings.ensures.utf8;
    indexes = c.in_ok-put_settings.ensures.pairs;
  };
  spelled = rw (
    c.in_ok-put_removed.ensures,
    c.in_ok-put_parts.ensures.written,
    c.in_ok-put_settings.ensures.written,
    c.in_ok-put_numbers.ensures.written,
    c.in_ok-put_kind.ensures,
    c.new-out.ensures.items,
    c.as_slice.ensures,
    c.as_slice-2.ensures,
  ) refl;
}
