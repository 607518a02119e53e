-- The stack from its top on, and readings that are compared.
use Rattle.std.proofs.Common.{◌≡◌, ◌<◌, ◌≤◌, List, [], ◌∷◌, ◌++◌, map, length, Err, ap, refl, arith, inl, inr}
use Rattle.std.proofs.lemmas.List.{reverse-append, length-map}
use Rattle.std.proofs.lemmas.Bool.{le-leb}
use Rattle.std.proofs.lemmas.Bool.Decides.{leb_tells}
use Rattle.idl_grammar.specs.Outcome as o
use Rattle.idl_token.specs.declared.views.Seen.{Seen}
use Rattle.idl_token.specs.Seen.{symbol, symbols}
use Rattle.idl_fault.specs.Machine as m
use Rattle.idl_fault.specs.declared.parts.Frame.{Frame}
use Rattle.idl_fault.specs.Views.{stack_of, frame_of}

pub stack_pushed : (fs : List Frame) (x : Frame) → stack_of (fs ++ x ∷ []) ≡ frame_of x ∷ stack_of fs
unfolding stack_of
stack_pushed fs x = ap (map frame_of) (reverse-append fs (x ∷ []))

pub stack_empty : stack_of [] ≡ []
unfolding stack_of
stack_empty = refl

pub seen_length : (ts : List Seen) → length (symbols ts) ≡ length ts
seen_length ts = length-map ts symbol

pub first_came : (ts : List Seen) (q : m.Reading) → length ts ≤ o.left_of q → o.farther (m.reached (symbols ts)) q ≡ m.reached (symbols ts)
first_came ts q le = let same = seen_length ts in let small = le-leb (length (symbols ts)) (o.left_of q) (omega arith) in rw small refl

pub second_after_end : (ts : List Seen) (q : m.Reading) → o.left_of q < length ts → o.farther (m.reached (symbols ts)) q ≡ q
second_after_end ts q lt = let same = seen_length ts in elim (leb_tells (length (symbols ts)) (o.left_of q)) [ inl p ↦ absurd (let h = p.1 in omega arith) | inr p ↦ rw (p.0) refl ]

pub second_after_fault : (ts : List Seen) (q : m.Reading) → o.left_of q ≤ length ts → o.farther (Err (symbols ts)) q ≡ q
second_after_fault ts q le = let same = seen_length ts in let small = le-leb (o.left_of q) (length (symbols ts)) (omega arith) in rw small refl

pub first_stopped : (ts : List Seen) (q : m.Reading) → length ts < o.left_of q → o.farther (Err (symbols ts)) q ≡ Err (symbols ts)
first_stopped ts q lt = let same = seen_length ts in elim (leb_tells (o.left_of q) (length (symbols ts))) [ inl p ↦ absurd (let h = p.1 in omega arith) | inr p ↦ rw (p.0) refl ]
