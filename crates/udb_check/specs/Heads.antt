-- A proof as the heads of its lines, and proofs grown from heads.
use Rattle.std.specs.Prelude.{◌≡◌, ◌&&◌, ◌++◌, ◌+◌, ◌^◌, ◌<◌, Bool, true, false, ℕ, zero, suc, nat_lt, List, [], ◌∷◌, map, length, take, drop, Option, None, Some, IsTrue}
use Rattle.std.specs.List.{flat_map, list_all}
use Rattle.std.specs.Fmt.{decimal}
use Rattle.udb_base.specs.declared.refutations.Proof.{Proof}
use Rattle.udb_base.specs.declared.refutations.Proof.TheVariants as p
use Rattle.udb_base.specs.declared.refutations.Proof.TheOpen.{Proof-F}
use Rattle.udb_base.specs.declared.refutations.Proof.TheFolds.{fold-Proof}
use Rattle.udb_base.specs.declared.spaces.Space.{Space}
use Rattle.udb_spec.specs.ProofText.{leaf_text, split_text, cut_text, has_place, name_at}
use Rattle.udb_check.specs.declared.heads.Head.{Head}
use Rattle.udb_check.specs.declared.heads.Head.TheVariants.{Leaf, Split, Cut}

abbrev pub head_text : Space → Head → List ℕ
head_text space (Leaf number) = leaf_text number
head_text space (Split param place cells) = split_text space param place cells
head_text space (Cut place at) = cut_text space place at

-- the place is one of the space, and the number is in its range
abbrev pub is_head : Space → Head → Bool
is_head space (Leaf number) = nat_lt number (2 ^ 32)
is_head space (Split param place cells) = has_place space param place && nat_lt cells (2 ^ 32)
is_head space (Cut place at) = has_place space true place && nat_lt at (2 ^ 64)

-- the line is the text of the head; of none where there is no head
abbrev pub IsHeadOf : Space → List ℕ → Option Head → Type 0
IsHeadOf space line (Some head) = (head_text space head ≡ line) × IsTrue (is_head space head)
IsHeadOf space line None = (head : Head) → IsTrue (is_head space head) → head_text space head ≡ line → ⊥

-- the number after a name and a space
abbrev pub IsNumberAfter : List ℕ → List ℕ → Option ℕ → Type 0
IsNumberAfter name text (Some n) = (name ++ (32 ∷ decimal n) ≡ text) × (n < 2 ^ 64)
IsNumberAfter name text None = (n : ℕ) → n < 2 ^ 64 → name ++ (32 ∷ decimal n) ≡ text → ⊥

-- how many parameters, or else extensions, the space has
abbrev pub places : Space → Bool → ℕ
places space true = length space.params
places space false = length space.extensions

-- a name of the space, a space and a number
abbrev pub named_text : Space → Bool → ℕ → ℕ → List ℕ
named_text space param place n = name_at space param place ++ (32 ∷ decimal n)

abbrev pub IsNamedBy : Space → Bool → List ℕ → Option (ℕ × ℕ) → Type 0
IsNamedBy space param text (Some found) = (named_text space param found.0 found.1 ≡ text) × IsTrue (has_place space param found.0) × (found.1 < 2 ^ 64)
IsNamedBy space param text None = (place n : ℕ) → IsTrue (has_place space param place) → n < 2 ^ 64 → named_text space param place n ≡ text → ⊥

-- the head that a text is after the words of its kind
abbrev pub IsLeafAfter : List ℕ → Option Head → Type 0
IsLeafAfter text (Some head) = (n : ℕ) × (head ≡ Leaf n) × (n < 2 ^ 32) × (decimal n ≡ text)
IsLeafAfter text None = (n : ℕ) → n < 2 ^ 32 → decimal n ≡ text → ⊥

abbrev pub IsSplitAfter : Space → Bool → List ℕ → Option Head → Type 0
IsSplitAfter space param text (Some head) = (place n : ℕ) × (head ≡ Split param place n) × IsTrue (has_place space param place) × (n < 2 ^ 32) × (named_text space param place n ≡ text)
IsSplitAfter space param text None = (place n : ℕ) → IsTrue (has_place space param place) → n < 2 ^ 32 → named_text space param place n ≡ text → ⊥

abbrev pub IsCutAfter : Space → List ℕ → Option Head → Type 0
IsCutAfter space text (Some head) = (place n : ℕ) × (head ≡ Cut place n) × IsTrue (has_place space true place) × (n < 2 ^ 64) × (named_text space true place n ≡ text)
IsCutAfter space text None = (place n : ℕ) → IsTrue (has_place space true place) → n < 2 ^ 64 → named_text space true place n ≡ text → ⊥

abbrev pub arity : Head → ℕ
arity (Leaf number) = 0
arity (Split param place cells) = cells
arity (Cut place at) = 2

-- how many proofs are still awaited after these heads; none where one is too many
abbrev pub awaited_after : ℕ → List Head → Option ℕ
awaited_after n [] = Some n
awaited_after zero (head ∷ heads) = None
awaited_after (suc n) (head ∷ heads) = awaited_after (n + arity head) heads

abbrev pub heads_step : Proof-F (List Head) → List Head
heads_step (Proof-F.Leaf number) = Leaf number ∷ []
heads_step (Proof-F.Split param place parts) = Split param place (length parts) ∷ flat_map (λ heads. heads) parts
heads_step (Proof-F.Cut place at below from) = Cut place at ∷ below ++ from

unfoldable pub heads_of : Proof → List Head
heads_of = fold-Proof (List Head) heads_step

-- a head takes its children from the proofs after it
abbrev pub plant : Head → List Proof → List Proof
plant (Leaf number) proofs = p.Leaf number ∷ proofs
plant (Split param place cells) proofs = p.Split param place (take cells proofs) ∷ drop cells proofs
plant (Cut place at) [] = []
plant (Cut place at) (below ∷ []) = below ∷ []
plant (Cut place at) (below ∷ from ∷ proofs) = p.Cut place at below from ∷ proofs

abbrev pub grow : List Head → List Proof
grow [] = []
grow (head ∷ heads) = plant head (grow heads)

-- each line is the text of a head, and together they are one proof
pub record AreHeads (space : Space) (lines : List (List ℕ)) (heads : List Head) : Type 0 where
  pub text : map (head_text space) heads ≡ lines
  pub fit : IsTrue (list_all (is_head space) heads)
  pub whole : awaited_after 1 heads ≡ Some 0
