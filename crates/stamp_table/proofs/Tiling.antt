-- Where an item of a list is among its tiles, and what a change of it leaves.
use Rattle.std.proofs.Common.{◌≡◌, ℕ, zero, suc, ◌+◌, ◌-◌, ◌*◌, ◌/◌, ◌%◌, ◌<◌, ◌≤◌, min, ⊎_elim, List, [], ◌∷◌, ◌++◌}
use Rattle.std.proofs.Common.{length, get_or, set, map, refl, ap, sym, subst, ◌∙◌, arith, div-add-mod'}
use Rattle.std.proofs.Common.{append-nil, append_assoc, length-append, length-set, suc-mul, zero-mul}
use Rattle.std.specs.List.{concat}
use Rattle.std.proofs.lemmas.Bool.{cases_lt}
use Rattle.std.proofs.lemmas.List.{get_or-append-add, get_or-map, get_or_append_left, length-map}
use Rattle.std.proofs.lemmas.List.{map-append, nil_from_length, set-append_left, set-append_right}
use Rattle.std.proofs.lemmas.Nat.{mod_below}
use Rattle.stamp_table.specs.Tiles.{IsTiled}

-- item i of a list is item r of its tile k
pub record IsIn (tiles : List (List ℕ)) (k r i : ℕ) : Type 0 where
  pub tile : k < length tiles
  pub item : r < length (get_or tiles k [])
  pub read : get_or (concat tiles) i 0 ≡ get_or (get_or tiles k []) r 0
  pub changed : (t : ℕ) → set (concat tiles) i t ≡ concat (set tiles k (set (get_or tiles k []) r t))

some_tile : (tiles : List (List ℕ)) → 0 < length (concat tiles) → 0 < length tiles
some_tile [] some = some
some_tile (tile ∷ tiles) some = omega arith

module _ (width : ℕ) where
  -- a tile before the item is full
  full_before : (tile : List ℕ) (tiles : List (List ℕ)) (i : ℕ) → IsTiled width 0 (tile ∷ tiles)
      → length tile ≤ i → i < length (tile ++ concat tiles) → length tile ≡ width
  full_before tile tiles i tiled past within =
      tiled.1 (omega (arith, some_tile tiles (omega (arith, length-append tile (concat tiles)))))

  pub found : (tiles : List (List ℕ)) (k r i : ℕ) → IsTiled width 0 tiles → r < width → i ≡ k * width + r
      → i < length (concat tiles) → IsIn tiles k r i
  found [] k r i tiled low at within = absurd (omega arith)
  found (tile ∷ tiles) zero r i tiled low at within =
      let here : i ≡ r = omega (arith, zero-mul width) in
      let inside : r < length tile = ⊎_elim (λ (is : r < length tile). is)
      (λ (past : length tile ≤ r). absurd (omega (arith, full_before tile tiles i tiled (omega arith) within)))
      (cases_lt r (length tile)) in
      record {
        tile = omega arith;
        item = inside;
        read = ap (λ n. get_or (tile ++ concat tiles) n 0) here ∙ get_or_append_left tile (concat tiles) 0 r inside;
        changed = λ t. ap (λ n. set (tile ++ concat tiles) n t) here ∙ set-append_left tile (concat tiles) r t inside;
      }
  found (tile ∷ tiles) (suc k) r i tiled low at within =
      let j = k * width + r in
      let beyond : length tile ≤ i = omega (arith, suc-mul k width, tiled.0) in
      let full : length tile ≡ width = full_before tile tiles i tiled beyond within in
      let past : i ≡ length tile + j = omega (arith, suc-mul k width) in
      let later = found tiles k r j tiled.2 low refl (omega (arith, length-append tile (concat tiles))) in
      record {
        tile = omega (arith, later.tile);
        item = later.item;
        read = ap (λ n. get_or (tile ++ concat tiles) n 0) past ∙ get_or-append-add tile (concat tiles) j 0
            ∙ later.read;
        changed = λ t.
            set-append_right tile (concat tiles) (length tile) i t refl (omega arith)
            ∙ ap (λ n. tile ++ set (concat tiles) n t) (let e : i - length tile ≡ j = omega arith in e)
            ∙ ap (λ rest. tile ++ rest) (later.changed t);
      }

  pub found_at : (tiles : List (List ℕ)) (i : ℕ) → 0 < width → IsTiled width 0 tiles → i < length (concat tiles)
      → IsIn tiles (i / width) (i % width) i
  found_at tiles i some tiled within =
      found tiles (i / width) (i % width) i tiled (mod_below i width some) (sym (div-add-mod' i width)) within

  -- a tile gives way to one of its length
  pub tiled_set : (tiles : List (List ℕ)) (k : ℕ) (tile : List ℕ) → length tile ≡ length (get_or tiles k [])
      → IsTiled width 0 tiles → IsTiled width 0 (set tiles k tile)
  tiled_set [] k tile same tiled = tt
  tiled_set (t ∷ ts) zero tile same tiled = (omega (arith, tiled.0), λ more. same ∙ tiled.1 more, tiled.2)
  tiled_set (t ∷ ts) (suc k) tile same tiled =
      (tiled.0, λ more. tiled.1 (omega (arith, length-set ts k tile)), tiled_set ts k tile same tiled.2)

  -- a tile more, cut from the front of what is left
  pub tiled_more : (left later : ℕ) (tiles : List (List ℕ)) (tile : List ℕ) → left ≡ length tile + later
      → length tile ≡ min width left → 0 < left → IsTiled width left tiles → IsTiled width later (tiles ++ tile ∷ [])
  tiled_more left later [] tile sum size some tiled = (omega arith, λ more. omega arith, tt)
  tiled_more left later (t ∷ ts) tile sum size some tiled =
      (tiled.0, λ more. tiled.1 (omega arith), tiled_more left later ts tile sum size some tiled.2)

concat_more : (tiles : List (List ℕ)) (tile : List ℕ) → concat (tiles ++ tile ∷ []) ≡ concat tiles ++ tile
concat_more [] tile = append-nil tile
concat_more (t ∷ ts) tile = ap (λ rest. t ++ rest) (concat_more ts tile) ∙ sym (append_assoc t (concat ts) tile)

-- the tiles were cut from the front of a list, and the rest of it is left
pub record IsCut (width : ℕ) (tiles : List (List ℕ)) (rest all : List ℕ) : Type 0 where
  pub joined : concat tiles ++ rest ≡ all
  pub tiled : IsTiled width (length rest) tiles

pub cut_none : (width : ℕ) (tiles : List (List ℕ)) (rest all : List ℕ) → tiles ≡ [] → rest ≡ all
    → IsCut width tiles rest all
cut_none width tiles rest all none is = record {
  joined = ap (λ ts. concat ts ++ rest) none ∙ is;
  tiled = subst (IsTiled width (length rest)) (sym none) tt;
}

pub cut_more : (width : ℕ) (tiles more : List (List ℕ)) (tile rest later all : List ℕ) → more ≡ tiles ++ tile ∷ []
    → rest ≡ tile ++ later → length tile ≡ min width (length rest) → 0 < length rest
    → IsCut width tiles rest all → IsCut width more later all
cut_more width tiles more tile rest later all is parts size some cut = record {
  joined = ap (λ ts. concat ts ++ later) is ∙ ap (λ l. l ++ later) (concat_more tiles tile)
      ∙ append_assoc (concat tiles) tile later ∙ ap (λ l. concat tiles ++ l) (sym parts) ∙ cut.joined;
  tiled = subst (IsTiled width (length later)) (sym is)
      (tiled_more width (length rest) (length later) tiles tile (ap length parts ∙ length-append tile later) size some
      cut.tiled);
}

-- a piece more, and what it holds
pub tile_more : {X : Type 0} (f : X → List ℕ) (pieces more : List X) (piece : X) (tile : List ℕ)
    → more ≡ pieces ++ piece ∷ [] → f piece ≡ tile → map f more ≡ map f pieces ++ tile ∷ []
tile_more f pieces more piece tile is holds =
    ap (map f) is ∙ map-append f pieces (piece ∷ []) ∙ ap (λ t. map f pieces ++ t ∷ []) holds

pub cut_all : (width : ℕ) (tiles : List (List ℕ)) (rest all : List ℕ) → length rest ≡ 0 → IsCut width tiles rest all
    → (concat tiles ≡ all) × IsTiled width 0 tiles
cut_all width tiles rest all none cut = (
  sym (append-nil (concat tiles)) ∙ ap (λ l. concat tiles ++ l) (sym (nil_from_length rest none)) ∙ cut.joined,
  subst (λ left. IsTiled width left tiles) none cut.tiled,
)

-- item i of a list is item r of the piece k, where f gives what a piece holds
pub record IsAmong {X : Type 0} (f : X → List ℕ) (width : ℕ) (pieces : List X) (all : List ℕ) (k r i : ℕ) : Type 0 where
  pub piece : k < length pieces
  pub item : (x : X) → x ≡ get_or pieces k x → r < length (f x)
  pub read : (x : X) → x ≡ get_or pieces k x → get_or (f x) r 0 ≡ get_or all i 0
  pub changed : (x : X) (t : ℕ) → x ≡ get_or pieces k x → concat (set (map f pieces) k (set (f x) r t)) ≡ set all i t
  pub tiled : (x : X) (t : ℕ) → x ≡ get_or pieces k x → IsTiled width 0 (set (map f pieces) k (set (f x) r t))

pub among : {X : Type 0} (f : X → List ℕ) (width : ℕ) (pieces : List X) (all : List ℕ) (i : ℕ) → 0 < width
    → IsTiled width 0 (map f pieces) → concat (map f pieces) ≡ all → i < length all
    → IsAmong f width pieces all (i / width) (i % width) i
among {X} f width pieces all i some tiled is within =
    let k = i / width in
    let r = i % width in
    let tiles = map f pieces in
    let spot = found_at width tiles i some tiled (subst (λ l. i < length l) (sym is) within) in
    let inside : k < length pieces = omega (arith, spot.tile, length-map pieces f) in
    let tile : (x : X) → x ≡ get_or pieces k x → f x ≡ get_or tiles k [] =
    λ x at. ap f at ∙ sym (get_or-map f pieces k x [] inside) in
    record {
      piece = inside;
      item = λ x at. subst (λ l. r < length l) (sym (tile x at)) spot.item;
      read = λ x at. ap (λ l. get_or l r 0) (tile x at) ∙ sym spot.read ∙ ap (λ l. get_or l i 0) is;
      changed = λ x t at.
          ap (λ l. concat (set tiles k (set l r t))) (tile x at) ∙ sym (spot.changed t) ∙ ap (λ l. set l i t) is;
      tiled = λ x t at. tiled_set width tiles k (set (f x) r t)
          (length-set (f x) r t ∙ ap length (tile x at)) tiled;
    }
