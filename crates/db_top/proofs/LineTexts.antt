-- Lines that are put together in pieces.
use Rattle.std.proofs.Common.{ℕ, ◌≡◌, List, [], ◌∷◌, ◌++◌, append_assoc, refl, sym, ◌∙◌, ap}
use Rattle.std.proofs.lemmas.List.{append-nil}
use Rattle.std.specs.Fmt.{decimal}
use Rattle.std.specs.Prelude.{codes}
use Rattle.disk_model.specs.declared.file_name.FileName.{FileName}
use Rattle.db_top.specs.Checking.{summary_text}
use Rattle.db_top.specs.Statuses.{text_of}
use Rattle.db_top.specs.declared.status.Status.TheVariants as status
use Rattle.transcript.specs.Texts.{file_text, line_of}

-- the pieces of the line are its words with spaces between them
pieces : (f m l : List ℕ)
    → (((codes "ok front " ++ f) ++ (codes " merge " ++ m)) ++ (codes " parts 0 live " ++ l)) ++ codes "\n"
    ≡ line_of (codes "ok") (codes "front" ∷ f ∷ codes "merge" ∷ m ∷ codes "parts" ∷ codes "0" ∷ codes "live" ∷ l ∷ [])
pieces f m l =
    ap (λ (x : List ℕ). codes "ok front " ++ (x ++ codes "\n"))
    (append_assoc f (codes " merge " ++ m) (codes " parts 0 live " ++ l)
    ∙ ap (λ (x : List ℕ). f ++ (codes " merge " ++ (m ++ (codes " parts 0 live " ++ x)))) (sym (append-nil l)))

pub summed : (front merge live a b n : ℕ) (none one two three all : List ℕ) → a ≡ front → b ≡ merge → n ≡ live
    → none ≡ [] → one ≡ none ++ (codes "ok front " ++ decimal a) → two ≡ one ++ (codes " merge " ++ decimal b)
    → three ≡ two ++ (codes " parts 0 live " ++ decimal n) → all ≡ three ++ codes "\n"
    → all ≡ summary_text front merge live
summed front merge live a b n none one two three all at-front at-merge at-live start first second third last =
    last ∙ (ap (λ (l : List ℕ). l ++ codes "\n") (third
    ∙ ap (λ (l : List ℕ). l ++ (codes " parts 0 live " ++ decimal n)) (second
    ∙ ap (λ (l : List ℕ). l ++ (codes " merge " ++ decimal b)) (first
    ∙ ap (λ (l : List ℕ). l ++ (codes "ok front " ++ decimal a)) start)))
    ∙ (pieces (decimal a) (decimal b) (decimal n)
    ∙ (ap (λ (k : ℕ). summary_text k b n) at-front
    ∙ (ap (λ (k : ℕ). summary_text front k n) at-merge ∙ ap (λ (k : ℕ). summary_text front merge k) at-live))))

pub damaged : (file : FileName) (place number : ℕ) (kind none zero one two all : List ℕ)
    → file_text file ≡ kind ++ decimal number → none ≡ [] → zero ≡ none ++ codes "damaged "
    → one ≡ zero ++ (kind ++ decimal number) → two ≡ one ++ (codes " " ++ decimal place) → all ≡ two ++ codes "\n"
    → all ≡ text_of [] (status.Damaged file place)
damaged file place number kind none zero one two all named start begun first second last =
    last ∙ (ap (λ (l : List ℕ). l ++ codes "\n") (second
    ∙ ap (λ (l : List ℕ). l ++ (codes " " ++ decimal place)) (first
    ∙ (ap (λ (l : List ℕ). l ++ (kind ++ decimal number)) (begun
    ∙ ap (λ (l : List ℕ). l ++ codes "damaged ") start)
    ∙ ap (λ (l : List ℕ). codes "damaged " ++ l) (sym named))))
    ∙ simp (append_assoc) refl)
