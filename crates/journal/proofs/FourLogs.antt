-- The bodies of four logs, two journals and two root logs.
use Rattle.std.proofs.Common.{◌≡◌, ◌⊎◌, inl, inr, ⊎_elim, ◌∙◌, refl, ap, ℕ, zero, suc, List, arith}
use Rattle.disk_model.specs.Logs.{Image}
use Rattle.directory_meaning.specs.Bodies.{Bodies, HasBodies}
use Rattle.directory_meaning.specs.Damages.{IsFound, gate_of}
use Rattle.directory_reading.specs.Reading.{IsNewestRoot}
use Rattle.directory_reading.specs.declared.newest.Newest.{Newest}
use Rattle.frame_log.specs.Frames.{HasFrames}
use Rattle.journal_bodies.specs.Roots.{PlainRoot}

-- the bodies of journals 0 and 1 and of root logs 2 and 3
abbrev pub four : List (List ℕ) → List (List ℕ) → List (List ℕ) → List (List ℕ) → Bodies
four first second third fourth zero = first
four first second third fourth (suc zero) = second
four first second third fourth (suc (suc zero)) = third
four first second third fourth (suc (suc (suc n))) = fourth

-- an image whose logs have these frames
pub four_have : (image : Image) (bodies : Bodies) → HasFrames (bodies 0) (image 0) → HasFrames (bodies 1) (image 1)
    → HasFrames (bodies 2) (image 2) → HasFrames (bodies 3) (image 3) → HasBodies bodies image
four_have image bodies a b c d zero lt = a
four_have image bodies a b c d (suc zero) lt = b
four_have image bodies a b c d (suc (suc zero)) lt = c
four_have image bodies a b c d (suc (suc (suc zero))) lt = d
four_have image bodies a b c d (suc (suc (suc (suc n)))) lt = absurd (omega (arith, lt))

-- the newest root is in one of the root logs
pub root_log_of : (roots_0 roots_1 : List PlainRoot) (root : PlainRoot) (file k : ℕ)
    → IsFound roots_0 roots_1 root file k → (file ≡ 2) ⊎ (file ≡ 3)
root_log_of roots_0 roots_1 root file k found = ⊎_elim (λ first. inl first.0) (λ second. inr second.0) found.here

-- the bodies of a root log are the same with any journals
same_root_log : (first second : List (List ℕ)) (bodies : Bodies) (file : ℕ) → (file ≡ 2) ⊎ (file ≡ 3)
    → bodies file ≡ four first second (bodies 2) (bodies 3) file
same_root_log first second bodies file (inl two) = rw two refl
same_root_log first second bodies file (inr three) = rw three refl

-- the newest root is so whatever the journals have
pub newest_beside : (first second : List (List ℕ)) (bodies : Bodies) (found : Newest) → IsNewestRoot bodies found
    → IsNewestRoot (four first second (bodies 2) (bodies 3)) found
newest_beside first second bodies found is =
    let newest = is.newest in
    record {
      k = is.k;
      newest = record {
        roots_0 = newest.roots_0;
        roots_1 = newest.roots_1;
        first_log = newest.first_log;
        second_log = newest.second_log;
        found = newest.found;
      };
      gate = is.gate ∙ ap (λ (b : List (List ℕ)). gate_of b is.k) (same_root_log first second bodies found.file
          (root_log_of newest.roots_0 newest.roots_1 found.root found.file is.k newest.found));
      files = is.files;
    }
