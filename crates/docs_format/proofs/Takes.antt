-- What is read is a document's spelling, and what spells a document is read as it.
use Rattle.std.proofs.Common.{◌≡◌, ℕ, ◌≤◌, ◌^◌, Bool, true, List, ◌++◌, Ok, sym, ap, subst, ◌∙◌, rules}
use Rattle.std.specs.Prelude.{IsTrue}
use Rattle.byte_formats.proofs.Steps.{IsBytes-back}
use Rattle.doc_model.specs.Documents.{PlainDocument, document_size}
use Rattle.docs_format.specs.DocumentFormat.{fields}
use Rattle.docs_format.specs.Reading.{document_at}
use Rattle.docs_format.specs.Spelling as spell
use Rattle.docs_format.proofs.Digits.{IsBytes}
use Rattle.docs_format.proofs.DocumentLaws.{fields_lawful}
use Rattle.docs_format.proofs.Fields.{Takes}
use Rattle.docs_format.proofs.FormatSpells.{fields_spell}
use Rattle.docs_format.proofs.NodeReads.{document_same}
use Rattle.docs_format.proofs.Rules.{KeepsFields, fields_fit, fields_keep, keeps}

module _ (bytes : List ℕ) (x : PlainDocument × List ℕ) (fits : IsBytes bytes) (e : document_at bytes ≡ Ok x) where
  found : (bytes ≡ fields.spell x.0 ++ x.1) × (fields.fits x.0 ≡ true)
  found = fields_lawful.found bytes x.0 x.1 fits (sym (document_same bytes) ∙ e)

  pub document_takes : Takes bytes (spell.document x.0) x.1 × (spell.are_values x.0 ≡ true)
  document_takes =
      let parts : bytes ≡ spell.document x.0 ++ x.1 =
      found.0 ∙ ap (λ (t : List ℕ). t ++ x.1) (fields_spell x.0 found.1) in
      let behind : IsBytes x.1 = IsBytes-back (spell.document x.0) x.1 (subst IsBytes parts fits) in
      (record { parts = parts; rest_fits = behind }, (fields_keep x.0 found.1).1)

  pub document_kept : KeepsFields x.0
  document_kept = (fields_keep x.0 found.1).0

from_true : (b : Bool) → IsTrue b → b ≡ true
from_true b h = search rules

-- the bytes of a document, whatever is behind them
pub spelled_again : (bytes more : List ℕ) (d : PlainDocument) → spell.Spells bytes d
    → document_at (bytes ++ more) ≡ Ok (d, more)
spelled_again bytes more d s =
    let k = keeps d s.rules in
    let fit : fields.fits d ≡ true = fields_fit d k.0 k.1 (from_true (spell.are_values d) s.values) in
    ap (λ (t : List ℕ). document_at (t ++ more)) (s.spelled ∙ sym (fields_spell d fit))
    ∙ document_same (fields.spell d ++ more) ∙ fields_lawful.again d more fit
