-- What is found of one kind is found of another.
use Rattle.std.proofs.Common.{◌≡◌, ◌<◌, ◌^◌, ℕ, zero, suc, List, [], ◌∷◌, ◌++◌, length, get_or, Option, None, Some, refl, sym, ap, ◌∙◌, arith}
use Rattle.std.specs.Fmt.{decimal}
use Rattle.std.proofs.lemmas.Option.{same_Some}
use Rattle.std.proofs.lemmas.Fmt.{decimal_injective}
use Rattle.udb_base.specs.Fronts.{IsNumberOf}
use Rattle.udb_full.specs.Found.{IsFound, IsShort, IsNamed}

pub none-found : {X : Type 0} (Of : X → Type 0) (spelling : X → List ℕ) (text : List ℕ) → ((x : X) → Of x → spelling x ≡ text → ⊥) → IsFound Of spelling text None
none-found Of spelling text none = record { right = tt; only = λ x of is. absurd (none x of is) }

pub one-found : {X : Type 0} (Of : X → Type 0) (spelling : X → List ℕ) (text : List ℕ) (x : X) → Of x → spelling x ≡ text → ((y : X) → Of y → spelling y ≡ text → x ≡ y) → IsFound Of spelling text (Some x)
one-found Of spelling text x of is same = record { right = (of, is); only = λ y h e. ap Some (same y h e) }

-- ---- behind a name

pub line-found : {X : Type 0} (Of : X → Type 0) (spelling : X → List ℕ) (name line text : List ℕ) (o : Option X) → IsNamed name line (Some text) → IsFound Of spelling text o → IsFound Of (λ x. name ++ (32 ∷ spelling x)) line o
line-found Of spelling name line text (Some x) n f =
    record { right = (f.right.0, ap (λ t. name ++ (32 ∷ t)) f.right.1 ∙ n.right.1); only = λ y of is. f.only y of (sym (same_Some text (spelling y) (n.only (spelling y) tt is))) }
line-found Of spelling name line text None n f =
    record { right = tt; only = λ y of is. f.only y of (sym (same_Some text (spelling y) (n.only (spelling y) tt is))) }

-- what an item is doesn't depend on what stands past the end
pub get-any : {X : Type 0} (xs : List X) (i : ℕ) (d e : X) → i < length xs → get_or xs i e ≡ get_or xs i d
get-any [] i d e lt = absurd (omega arith)
get-any (x ∷ xs) zero d e lt = refl
get-any (x ∷ xs) (suc i) d e lt = get-any xs i d e (omega arith)

-- ---- a number from its text

number-found : (text : List ℕ) (n : ℕ) → n < 2 ^ 64 → decimal n ≡ text → IsFound IsShort decimal text (Some n)
number-found text n small is = one-found IsShort decimal text n small is (λ m short e. decimal_injective n m small short (is ∙ sym e))

pub found_number : (text : List ℕ) (o : Option ℕ) → IsNumberOf text o → IsFound IsShort decimal text o
found_number text (Some n) h = number-found text n h.1 h.0
found_number text None h = none-found IsShort decimal text h
