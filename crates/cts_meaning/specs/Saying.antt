-- What query a JSON tree says, and a JSON text (RFC 8259).
use Rattle.std.specs.Prelude.{ℕ, zero, suc, ◌≡◌, ◌⊎◌, Bool, false, List, [], ◌∷◌, map, Option, Some, None, codes, if◌then◌else◌}
use Rattle.std.specs.List.{find}
use Rattle.std.specs.Option.{option_map}
use Rattle.std.specs.Str.{bytes_eq}
use Rattle.doc_model.specs.Tree.{is_among}
use Rattle.doc_model.specs.declared.node.Node.{Node}
use Rattle.doc_model.specs.declared.node.Node.TheVariants as node
use Rattle.doc_model.specs.declared.query.Case.{Case}
use Rattle.doc_model.specs.declared.query.Case.TheVariants as case
use Rattle.doc_model.specs.declared.query.Compare.{Compare}
use Rattle.doc_model.specs.declared.query.Query.{Query}
use Rattle.doc_model.specs.declared.query.Query.TheVariants as query
use Rattle.doc_model.specs.declared.scalar.Scalar.{Scalar}
use Rattle.json_text.specs.Grammar.{Each, Member, IsJson}
use Rattle.cts_meaning.specs.Faults.{IsFaultless}
use Rattle.cts_meaning.specs.Shapes.{form_name, compare_text, scalar_node, whole}
use Rattle.cts_meaning.specs.declared.form.QueryForm.{QueryForm}
use Rattle.cts_meaning.specs.declared.form.QueryForm.TheVariants as form
use Rattle.cts_meaning.specs.declared.shape.Shape.TheVariants as shape

-- the value of the member of this name, if there is one
abbrev pub value_of : List ℕ → List Member → Option Node
value_of name members = option_map (λ m. m.1) (find (λ m. bytes_eq m.0 name) members)

-- one value alone, or an array of values
abbrev pub AreValuesOf : {A : Type 0} → (A → Node) → Option Node → List A → Type 0
AreValuesOf {A} spelled found values =
    ((value : A) × (found ≡ Some (spelled value)) × (values ≡ value ∷ []))
    ⊎ (found ≡ Some (node.Items (map spelled values)))

abbrev pub AreTexts : Option Node → List (List ℕ) → Type 0
AreTexts = AreValuesOf node.Text

abbrev pub AreScalars : Option Node → List Scalar → Type 0
AreScalars = AreValuesOf scalar_node

-- the options, none where there is no such member
abbrev pub AreOptions : Option Node → List (List ℕ) → Type 0
AreOptions None given = given ≡ []
AreOptions (Some found) given = found ≡ node.Items (map node.Text given)

abbrev pub case_of : List (List ℕ) → Case
case_of given =
    if is_among given (codes "case-sensitive") then case.Sensitive
    else if is_among given (codes "case-insensitive") then case.Insensitive
    else case.Auto

-- 10 where there is no such member
abbrev pub IsDistance : Option Node → ℕ → Type 0
IsDistance None distance = distance ≡ 10
IsDistance (Some found) distance = found ≡ whole distance

abbrev pub depth_text : Bool → List ℕ
depth_text infinite = if infinite then codes "infinity" else codes "1"

-- 1 where there is no such member
abbrev pub IsDepth : Option Node → Bool → Type 0
IsDepth None infinite = infinite ≡ false
IsDepth (Some found) infinite = found ≡ node.Text (depth_text infinite)

abbrev pub IsCompare : Option Node → Compare → Type 0
IsCompare found op = found ≡ Some (node.Text (compare_text op))

-- by what is said of the queries in it
module _ (IsSaid : Node → Query → Type 0) where
  -- a query
  abbrev pub IsChild : Option Node → Query → Type 0
  IsChild found child = (n : Node) × (found ≡ Some n) × IsSaid n child

  -- an array of queries
  abbrev pub AreChildren : Option Node → List Query → Type 0
  AreChildren found children = (items : List Node) × (found ≡ Some (node.Items items)) × Each IsSaid items children

  -- what a query says whose one member has this form's name, and whose argument object has these members
  abbrev pub SaysAs : QueryForm → List Member → Query → Type 0
  SaysAs form.True members q = q ≡ query.True
  SaysAs form.False members q = q ≡ query.False
  SaysAs form.And members q =
      (queries : List Query) × AreChildren (value_of (codes "queries") members) queries × (q ≡ query.And queries)
  SaysAs form.Or members q =
      (queries : List Query) × AreChildren (value_of (codes "queries") members) queries × (q ≡ query.Or queries)
  SaysAs form.Not members q = (child : Query) × IsChild (value_of (codes "query") members) child × (q ≡ query.Not child)
  SaysAs form.AndNot members q =
      (positive : Query) × (negative : Query) × IsChild (value_of (codes "positiveQuery") members) positive
      × IsChild (value_of (codes "negativeQuery") members) negative × (q ≡ query.AndNot positive negative)
  SaysAs form.Word members q =
      (texts : List (List ℕ)) × (given : List (List ℕ)) × AreTexts (value_of (codes "text") members) texts
      × AreOptions (value_of (codes "options") members) given × (q ≡ query.Word texts (case_of given))
  SaysAs form.PropWord members q =
      (names : List (List ℕ)) × (texts : List (List ℕ)) × (given : List (List ℕ))
      × AreTexts (value_of (codes "property") members) names × AreTexts (value_of (codes "text") members) texts
      × AreOptions (value_of (codes "options") members) given × (q ≡ query.PropWord names texts (case_of given))
  SaysAs form.PropValue members q =
      (names : List (List ℕ)) × (values : List Scalar) × (given : List (List ℕ))
      × AreTexts (value_of (codes "property") members) names × AreScalars (value_of (codes "value") members) values
      × AreOptions (value_of (codes "options") members) given
      × (q ≡ query.PropValue names values (case_of given) (is_among given (codes "exact")))
  SaysAs form.Range members q =
      (names : List (List ℕ)) × (op : Compare) × (values : List Scalar)
      × AreTexts (value_of (codes "property") members) names × IsCompare (value_of (codes "operator") members) op
      × AreScalars (value_of (codes "value") members) values × (q ≡ query.Range names op values)
  SaysAs form.Near members q =
      (queries : List Query) × (distance : ℕ) × (given : List (List ℕ))
      × AreChildren (value_of (codes "queries") members) queries
      × IsDistance (value_of (codes "distance") members) distance
      × AreOptions (value_of (codes "options") members) given
      × (q ≡ query.Near queries distance (is_among given (codes "ordered")))
  SaysAs form.Collection members q =
      (uris : List (List ℕ)) × AreTexts (value_of (codes "uris") members) uris × (q ≡ query.Collection uris)
  SaysAs form.DocUri members q =
      (uris : List (List ℕ)) × AreTexts (value_of (codes "uris") members) uris × (q ≡ query.DocUri uris)
  SaysAs form.Directory members q =
      (uris : List (List ℕ)) × (infinite : Bool) × AreTexts (value_of (codes "uris") members) uris
      × IsDepth (value_of (codes "depth") members) infinite × (q ≡ query.Directory uris infinite)

-- what a query says in which at most so many enclose each other, read without looking for faults
unfoldable pub Says : ℕ → Node → Query → Type 0
Says zero n q = ⊥
Says (suc depth) n q =
    (f : QueryForm) × (members : List Member)
    × (n ≡ node.Members ((form_name f, node.Members members) ∷ [])) × SaysAs (Says depth) f members q

-- the tree is this query: nothing in it is faulty, and it says so
pub record IsQuery (n : Node) (q : Query) : Type 0 where
  pub faultless : IsFaultless shape.Query n
  pub depth : ℕ
  pub says : Says depth n q

-- the text is this query
abbrev pub IsQueryText : List ℕ → Query → Type 0
IsQueryText bytes q = (n : Node) × IsJson bytes n × IsQuery n q
