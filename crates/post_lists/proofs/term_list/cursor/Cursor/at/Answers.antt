use Rattle.std.proofs.Common.{◌≡◌, ℕ, ◌≤◌, ◌-◌, List, length, take, drop, Some, sym, ap, ◌∙◌, arith}
use Rattle.post_lists.specs.Keeping.{IsAt, Keeps}
use Rattle.post_lists.specs.Numbers.{digits_at, items_of}
use Rattle.post_lists.specs.Postings.{spelling}
use Rattle.post_lists.specs.declared.term_list.TermList.TheInside.{Inside}
use Rattle.post_lists.proofs.Places.{Goes, place_within, reads_item, reads_none, sliced}
use Rattle.post_lists.proofs.Skips.{kept_in}
use Rattle.post_lists.proofs.term_list.cursor.Cursor.at.Goals as goal

within : (i : Inside) (items : List ℕ) (n place last : ℕ) → items_of i.count 0 i.bytes.items ≡ items
    → Keeps (items_of i.count 0 i.bytes.items) i.bytes.items i.skips.items i.count i.last → IsAt items n place last
    → (bytes : List ℕ) → bytes ≡ i.bytes.items → place ≤ length bytes
within i items n place last is kept at bytes e =
    omega (arith, place_within items n place last at, ap length e, ap length (kept_in i items is kept).spelled)

pub slice_bounds-number_at-count : goal.slice_bounds-number_at-count
slice_bounds-number_at-count c =
    within c.list.inside c.args.list.now c.args.passed c.args.place c.args.last c.list.view_is c.list.invariant
    c.requires
    c.as_slice-bytes.result.now c.as_slice-bytes.ensures.value

pub slice_bounds-number_at-start : goal.slice_bounds-number_at-start
slice_bounds-number_at-start c =
    within c.list.inside c.args.list.now c.args.passed c.args.place c.args.last c.list.view_is c.list.invariant
    c.requires
    c.as_slice-bytes.result.now c.as_slice-bytes.ensures.value

goes : (i : Inside) (items : List ℕ) (n place last : ℕ) → items_of i.count 0 i.bytes.items ≡ items
    → Keeps (items_of i.count 0 i.bytes.items) i.bytes.items i.skips.items i.count i.last → IsAt items n place last
    → (bytes : List ℕ) → bytes ≡ i.bytes.items → (more : ℕ) (rest : List ℕ)
    → digits_at 5 (take (length bytes - place) (drop place bytes)) ≡ Some (more, rest)
    → Goes items n place last more rest × (bytes ≡ spelling items)
goes i items n place last is kept at bytes e more rest read =
    let k = kept_in i items is kept in
    let spelled : bytes ≡ spelling items = e ∙ k.spelled in (
      reads_item items n place last k.postings at more rest
          (sym (ap (digits_at 5) (sliced bytes items place spelled)) ∙ read),
      spelled,
    )

pub overflow_cast-result : goal.overflow_cast-result
overflow_cast-result c =
    let g = goes c.list.inside c.args.list.now c.args.passed c.args.place c.args.last c.list.view_is c.list.invariant
    c.requires
    c.as_slice-bytes.result.now c.as_slice-bytes.ensures.value c.in-Some.more c.in-Some.rest.now
    c.in-Some.ensures.read in
    record { fits = omega (arith, g.0.few) }

pub overflow_add-result : goal.overflow_add-result
overflow_add-result c =
    let g = goes c.list.inside c.args.list.now c.args.passed c.args.place c.args.last c.list.view_is c.list.invariant
    c.requires
    c.as_slice-bytes.result.now c.as_slice-bytes.ensures.value c.in-Some.more c.in-Some.rest.now
    c.in-Some.ensures.read in
    record { fits = omega (arith, g.0.fits) }

pub overflow_sub-result : goal.overflow_sub-result
overflow_sub-result c =
    let g = goes c.list.inside c.args.list.now c.args.passed c.args.place c.args.last c.list.view_is c.list.invariant
    c.requires
    c.as_slice-bytes.result.now c.as_slice-bytes.ensures.value c.in-Some.more c.in-Some.rest.now
    c.in-Some.ensures.read in
    omega (arith, g.0.within, ap length g.1)

pub invariant_of-result-2 : goal.invariant_of-result-2
invariant_of-result-2 c =
    let g = goes c.list.inside c.args.list.now c.args.passed c.args.place c.args.last c.list.view_is c.list.invariant
    c.requires
    c.as_slice-bytes.result.now c.as_slice-bytes.ensures.value c.in-Some.more c.in-Some.rest.now
    c.in-Some.ensures.read in
    let k = kept_in c.list.inside c.args.list.now c.list.view_is c.list.invariant in
    record {
      postings = k.postings;
      few = omega (arith, k.counted, k.few);
      there = c.requires.there;
      next = g.0.head;
      behind = rw (ap length g.1) g.0.behind;
    }

pub invariant_of-result : goal.invariant_of-result
invariant_of-result c =
    let k = kept_in c.list.inside c.args.list.now c.list.view_is c.list.invariant in
    let spelled : c.as_slice-bytes.result.now ≡ spelling c.args.list.now = c.as_slice-bytes.ensures.value ∙ k.spelled in
    let none = reads_none c.args.list.now c.args.passed c.args.place c.args.last k.postings c.requires
    (sym (ap (digits_at 5) (sliced c.as_slice-bytes.result.now c.args.list.now c.args.place spelled))
    ∙ c.in_default.ensures.read) in
    record {
      postings = k.postings;
      few = omega (arith, k.counted, k.few);
      there = c.requires.there;
      next = none.1;
      behind = tt;
    }
