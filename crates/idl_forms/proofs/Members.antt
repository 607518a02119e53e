-- Texts that name no member of an enumeration.
use Rattle.std.proofs.Common.{◌≡◌, ℕ, Bool, true, false, List, [], ◌∷◌, None, Some, cond, refl, sym, ap, ◌∙◌}
use Rattle.std.specs.Prelude.{◌≢◌, codes, find, option_map}
use Rattle.std.specs.Cmp.Lexicographic.{bytes_decides}
use Rattle.udb_spec.specs.Conditions.{same_bytes}
use Rattle.idl_tree.specs.declared.widths.EnumKind.TheVariants.{ExceptionCode}
use Rattle.idl_spec.specs.Values.{member_number}

differs : (b : Bool) (key name : List ℕ) → same_bytes key name ≡ b → name ≢ key → b ≡ false
differs true key name is other = absurd (other (sym ((bytes_decides key name).0 is)))
differs false key name is other = refl

-- a member of another name is passed over
past : (name key : List ℕ) (n : ℕ) (ms : List (List ℕ × ℕ)) → name ≢ key
    → option_map (λ m. m.1) (find (λ m. same_bytes m.0 name) ((key, n) ∷ ms)) ≡ option_map (λ m. m.1) (find (λ m. same_bytes m.0 name) ms)
past name key n ms other =
    ap (λ b. option_map (λ m. m.1) (cond b (Some (key, n)) (find (λ m. same_bytes m.0 name) ms))) (differs (same_bytes key name) key name refl other)

pub no-exception : (name : List ℕ) → name ≢ codes "InstructionAddressMisaligned" → name ≢ codes "InstructionAccessFault" → name ≢ codes "IllegalInstruction"
    → name ≢ codes "Breakpoint" → name ≢ codes "LoadAddressMisaligned" → name ≢ codes "LoadAccessFault" → name ≢ codes "StoreAmoAddressMisaligned"
    → name ≢ codes "StoreAmoAccessFault" → name ≢ codes "Mcall" → None ≡ member_number ExceptionCode name
unfolding member_number
no-exception name a b c d e f g h i =
    sym (past name (codes "InstructionAddressMisaligned") 0
    ((codes "InstructionAccessFault", 1) ∷ (codes "IllegalInstruction", 2) ∷ (codes "Breakpoint", 3) ∷ (codes "LoadAddressMisaligned", 4) ∷ (codes "LoadAccessFault", 5) ∷ (codes "StoreAmoAddressMisaligned", 6) ∷ (codes "StoreAmoAccessFault", 7) ∷ (codes "Mcall", 11) ∷ []) a
    ∙ (past name (codes "InstructionAccessFault") 1
    ((codes "IllegalInstruction", 2) ∷ (codes "Breakpoint", 3) ∷ (codes "LoadAddressMisaligned", 4) ∷ (codes "LoadAccessFault", 5) ∷ (codes "StoreAmoAddressMisaligned", 6) ∷ (codes "StoreAmoAccessFault", 7) ∷ (codes "Mcall", 11) ∷ []) b
    ∙ (past name (codes "IllegalInstruction") 2
    ((codes "Breakpoint", 3) ∷ (codes "LoadAddressMisaligned", 4) ∷ (codes "LoadAccessFault", 5) ∷ (codes "StoreAmoAddressMisaligned", 6) ∷ (codes "StoreAmoAccessFault", 7) ∷ (codes "Mcall", 11) ∷ []) c
    ∙ (past name (codes "Breakpoint") 3
    ((codes "LoadAddressMisaligned", 4) ∷ (codes "LoadAccessFault", 5) ∷ (codes "StoreAmoAddressMisaligned", 6) ∷ (codes "StoreAmoAccessFault", 7) ∷ (codes "Mcall", 11) ∷ []) d
    ∙ (past name (codes "LoadAddressMisaligned") 4
    ((codes "LoadAccessFault", 5) ∷ (codes "StoreAmoAddressMisaligned", 6) ∷ (codes "StoreAmoAccessFault", 7) ∷ (codes "Mcall", 11) ∷ []) e
    ∙ (past name (codes "LoadAccessFault") 5
    ((codes "StoreAmoAddressMisaligned", 6) ∷ (codes "StoreAmoAccessFault", 7) ∷ (codes "Mcall", 11) ∷ []) f
    ∙ (past name (codes "StoreAmoAddressMisaligned") 6
    ((codes "StoreAmoAccessFault", 7) ∷ (codes "Mcall", 11) ∷ []) g
    ∙ (past name (codes "StoreAmoAccessFault") 7
    ((codes "Mcall", 11) ∷ []) h
    ∙ (past name (codes "Mcall") 11
    [] i)))))))))
