-- One client or store more is put back.
use Rattle.std.proofs.Common.{◌≡◌, ◌≢◌, ◌<◌, ◌+◌, ◌++◌, ◌∷◌, [], ℕ, suc, List, Option, Some, IfSome, true, false, map, take, length, get_or, slice_get, string_bytes, slice_set, refl, ap, sym, subst, ◌∙◌, arith}
use Rattle.std.specs.BTreeMap.{BTreeMap, get_by_text}
use Rattle.std.specs.Map.{update}
use Rattle.std.specs.Str.{bytes_eq}
use Rattle.std.specs.declared.string.String.{String}
use Rattle.std.specs.declared.alloc.Global.{Global}
use Rattle.std.proofs.lemmas.Bool.{false_from_ne_true}
use Rattle.std.proofs.lemmas.Map.{update_same, update_other}
use Rattle.std.proofs.lemmas.Option.{slice_get-map, slice_get_read}
use Rattle.std.proofs.lemmas.Slice.Eq.{bytes_eq-Decides}
use Rattle.std.specs.Option.{option_map}
use Rattle.std.proofs.Math.Seq.{map-set_same, take-suc-set}
use Rattle.std.proofs.lemmas.List.{length-take}
use Rattle.std.proofs.lemmas.List.{length-map}
use Rattle.disk_model.specs.Worlds.{PutsBack, directory_due}
use Rattle.disk_model.specs.declared.world.Store.{Store}
use Rattle.disk_memory.specs.declared.disk.MemoryDisk.{MemoryDisk}
use Rattle.disk_memory.specs.declared.yard.MemoryYard.{MemoryYard}
use Rattle.disk_memory.specs.declared.world.ClientSeat.{ClientSeat}
use Rattle.disk_memory.specs.declared.world.StoreSeat.{StoreSeat}
use Rattle.disk_memory.specs.Worlds.{seated_clients, seated_stores, seated_directories}

map_last : {A B : Type 0} (g : A → B) (xs : List A) (y : A) → map g (xs ++ y ∷ []) ≡ map g xs ++ g y ∷ []
map_last g [] y = refl
map_last g (x ∷ xs) y = ap (λ ys. g x ∷ ys) (map_last g xs y)

back_more : {A B : Type 0} (g : A → B) (xs : List A) (n : ℕ) (y : A) → n < length xs →
    map g (take (n + 1) (slice_set xs n y)) ≡ map g (take n xs) ++ g y ∷ []
back_more g xs n y lt =
    let next : n + 1 ≡ suc n = omega arith in
    ap (λ j. map g (take j (slice_set xs n y))) next ∙ (ap (map g) (take-suc-set xs n y lt) ∙ map_last g (take n xs) y)

-- a place that isn't filled is within
pub room : {A B C : Type 0} (f : A → B) (g : A → C) (xs : List A) (n : ℕ) →
    length (map f (take n xs)) < length (map g xs) → n < length xs
room f g xs n lt = omega (arith, simp (length-map, length-take) at lt)

pub client_returns : (seats : List ClientSeat) (n : ℕ) (seat old : ClientSeat) → n < length seats →
    old ≡ get_or seats n old → seat.out.value ≡ old.out.value
    → PutsBack seat.back (seated_clients seats n) (seated_clients (slice_set seats n seat) (n + 1))
client_returns seats n seat old lt was same = record {
  out = map-set_same (λ (s : ClientSeat). s.out.value) seats n seat old
      (same ∙ ap (λ (s : ClientSeat). s.out.value) was);
  back = back_more (λ (s : ClientSeat). s.back) seats n seat lt;
}

pub store_returns : (seats : List StoreSeat) (n : ℕ) (seat old : StoreSeat) (store : Store MemoryDisk MemoryYard) →
    n < length seats → old ≡ get_or seats n old → seat.out.value ≡ old.out.value
    → option_map (λ b. b.value) seat.back ≡ Some store →
    PutsBack (Some store) (seated_stores seats n) (seated_stores (slice_set seats n seat) (n + 1))
store_returns seats n seat old store lt was same is = record {
  out = map-set_same (λ (s : StoreSeat). s.out.value) seats n seat old (same ∙ ap (λ (s : StoreSeat). s.out.value) was);
  back = back_more (λ (s : StoreSeat). option_map (λ b. b.value) s.back) seats n seat lt ∙
      ap (λ (b : Option (Store MemoryDisk MemoryYard)). map (λ (s : StoreSeat). option_map (λ b. b.value) s.back)
      (take n seats) ++ b ∷ []) is;
}

pub same_directories : (seats : List StoreSeat) (n : ℕ) (seat old : StoreSeat) → old ≡ get_or seats n old →
    string_bytes seat.directory ≡ string_bytes old.directory
    → seated_directories (slice_set seats n seat) ≡ seated_directories seats
same_directories seats n seat old was same = map-set_same (λ (s : StoreSeat). string_bytes s.directory) seats n seat
    old (same ∙ ap (λ (s : StoreSeat). string_bytes s.directory) was)

-- the directory that is due is that of the first seat without a return
due : (seats : List StoreSeat) (n : ℕ) (seat : StoreSeat) → n < length seats → seat ≡ get_or seats n seat
    → directory_due (seated_stores seats n) (seated_directories seats) ≡ Some (string_bytes seat.directory)
due seats n seat lt was =
    let returned : length (map (λ (s : StoreSeat). option_map (λ b. b.value) s.back) (take n seats)) ≡ n =
    simp (length-map, length-take) (omega (arith, lt)) in
    ap (slice_get (seated_directories seats)) returned
    ∙ (slice_get-map (λ (s : StoreSeat). string_bytes s.directory) seats n
    ∙ ap (option_map (λ (s : StoreSeat). string_bytes s.directory))
    (slice_get_read seats (length seats) n seat refl lt was))

pub equal_bytes : (bs cs : List ℕ) → bs ≡ cs → bytes_eq bs cs ≡ true
equal_bytes bs cs same = (bytes_eq-Decides bs cs).1 same

pub apart_bytes : (bs cs : List ℕ) → bs ≢ cs → bytes_eq bs cs ≡ false
apart_bytes bs cs apart = false_from_ne_true (bytes_eq bs cs) (λ same. apart ((bytes_eq-Decides bs cs).0 same))

-- a store that was put is in the directory that was due
pub stands_there : (seats : List StoreSeat) (n : ℕ) (seat : StoreSeat) (bs : List ℕ)
    (old new : BTreeMap (String Global) (Store MemoryDisk MemoryYard)) (store : Store MemoryDisk MemoryYard)
    → n < length seats → seat ≡ get_or seats n seat → bs ≡ string_bytes seat.directory
    → ((cs : List ℕ) → get_by_text new cs ≡ update bytes_eq (get_by_text old) bs (Some store) cs)
    → IfSome (directory_due (seated_stores seats n) (seated_directories seats))
    (λ dir. get_by_text new dir ≡ Some store)
stands_there seats n seat bs old new store lt was is sets =
    subst (λ (due_dir : Option (List ℕ)). IfSome due_dir (λ dir. get_by_text new dir ≡ Some store))
    (sym (due seats n seat lt was))
    (sets (string_bytes seat.directory) ∙ update_same bytes_eq (get_by_text old) bs (Some store)
    (string_bytes seat.directory) (equal_bytes bs (string_bytes seat.directory) is))

-- every other directory has what it had
pub others_stand : (seats : List StoreSeat) (n : ℕ) (seat : StoreSeat) (bs : List ℕ)
    (old new : BTreeMap (String Global) (Store MemoryDisk MemoryYard)) (store : Store MemoryDisk MemoryYard)
    → n < length seats → seat ≡ get_or seats n seat → bs ≡ string_bytes seat.directory
    → ((cs : List ℕ) → get_by_text new cs ≡ update bytes_eq (get_by_text old) bs (Some store) cs)
    → (other : List ℕ) → directory_due (seated_stores seats n) (seated_directories seats) ≢ Some other →
    Some (get_by_text new other) ≡ Some (get_by_text old other)
others_stand seats n seat bs old new store lt was is sets other apart =
    ap (λ (found : Option (Store MemoryDisk MemoryYard)). Some found)
    (sets other ∙ update_other bytes_eq (get_by_text old) bs (Some store) other
    (apart_bytes bs other (λ same. apart (due seats n seat lt was ∙ ap (λ (dir : List ℕ). Some dir) (sym is ∙ same)))))
