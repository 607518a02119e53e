-- Forms over kinds that are bits, and the kind of a choice.
use Rattle.std.proofs.Common.{◌≡◌, Bool, None, Some, Option, refl}
use Rattle.idl_tree.specs.declared.widths.Width.{Width}
use Rattle.idl_spec.specs.Shapes.{Kind, of_bits, of_flag, of_member, of_given_text, of_written_text, on_bits, on_two, choice_kind, at_larger}
use Rattle.type_kinds.specs.Kinds.{only_bits, agreed}

pub one-bits : (x : Option Kind) (w : Width) (s : Bool) (f : Width → Bool → Kind) → only_bits x ≡ Some (of_bits w s) → on_bits x f ≡ Some (f w s)
one-bits None w s f h = cc
one-bits (Some (of_bits v t)) w s f h = cc
one-bits (Some of_flag) w s f h = cc
one-bits (Some (of_member k)) w s f h = cc
one-bits (Some of_given_text) w s f h = cc
one-bits (Some of_written_text) w s f h = cc

pub one-none : (x : Option Kind) (f : Width → Bool → Kind) → only_bits x ≡ None → on_bits x f ≡ None
one-none None f h = refl
one-none (Some (of_bits v t)) f h = cc
one-none (Some of_flag) f h = refl
one-none (Some (of_member k)) f h = refl
one-none (Some of_given_text) f h = refl
one-none (Some of_written_text) f h = refl

pub ruleset one_steps = (one-bits, one-none)

pub two-bits : (x y : Option Kind) (w : Width) (s : Bool) (v : Width) (t : Bool) (f : Width → Bool → Width → Bool → Kind)
    → only_bits x ≡ Some (of_bits w s) → only_bits y ≡ Some (of_bits v t) → on_two x y f ≡ Some (f w s v t)
two-bits (Some (of_bits a b)) (Some (of_bits c d)) w s v t f h k = cc
two-bits None y w s v t f h k = cc
two-bits (Some of_flag) y w s v t f h k = cc
two-bits (Some (of_member m)) y w s v t f h k = cc
two-bits (Some of_given_text) y w s v t f h k = cc
two-bits (Some of_written_text) y w s v t f h k = cc
two-bits (Some (of_bits a b)) None w s v t f h k = cc
two-bits (Some (of_bits a b)) (Some of_flag) w s v t f h k = cc
two-bits (Some (of_bits a b)) (Some (of_member m)) w s v t f h k = cc
two-bits (Some (of_bits a b)) (Some of_given_text) w s v t f h k = cc
two-bits (Some (of_bits a b)) (Some of_written_text) w s v t f h k = cc

pub two-left : (x y : Option Kind) (f : Width → Bool → Width → Bool → Kind) → only_bits x ≡ None → on_two x y f ≡ None
two-left None y f h = refl
two-left (Some (of_bits a b)) y f h = cc
two-left (Some of_flag) y f h = refl
two-left (Some (of_member m)) y f h = refl
two-left (Some of_given_text) y f h = refl
two-left (Some of_written_text) y f h = refl

pub two-right : (x y : Option Kind) (f : Width → Bool → Width → Bool → Kind) → only_bits y ≡ None → on_two x y f ≡ None
two-right None y f h = refl
two-right (Some of_flag) y f h = refl
two-right (Some (of_member m)) y f h = refl
two-right (Some of_given_text) y f h = refl
two-right (Some of_written_text) y f h = refl
two-right (Some (of_bits a b)) None f h = refl
two-right (Some (of_bits a b)) (Some (of_bits c d)) f h = cc
two-right (Some (of_bits a b)) (Some of_flag) f h = refl
two-right (Some (of_bits a b)) (Some (of_member m)) f h = refl
two-right (Some (of_bits a b)) (Some of_given_text) f h = refl
two-right (Some (of_bits a b)) (Some of_written_text) f h = refl

pub ruleset two_steps = (two-bits, two-left, two-right)

agreed-member : (k l : _) → agreed (Some (of_member k)) (Some (of_member l)) ≡ None → choice_kind (Some (of_member k)) (Some (of_member l)) ≡ None
agreed-member k l h = h

pub choice-agreed : (x y : Option Kind) (kind : Kind) → agreed x y ≡ Some kind → choice_kind x y ≡ Some kind
choice-agreed None y kind h = cc
choice-agreed (Some (of_bits a b)) y kind h = cc
choice-agreed (Some of_given_text) y kind h = cc
choice-agreed (Some of_written_text) y kind h = cc
choice-agreed (Some of_flag) None kind h = cc
choice-agreed (Some of_flag) (Some (of_bits a b)) kind h = cc
choice-agreed (Some of_flag) (Some of_flag) kind h = h
choice-agreed (Some of_flag) (Some (of_member l)) kind h = cc
choice-agreed (Some of_flag) (Some of_given_text) kind h = cc
choice-agreed (Some of_flag) (Some of_written_text) kind h = cc
choice-agreed (Some (of_member m)) None kind h = cc
choice-agreed (Some (of_member m)) (Some (of_bits a b)) kind h = cc
choice-agreed (Some (of_member m)) (Some of_flag) kind h = cc
choice-agreed (Some (of_member m)) (Some (of_member l)) kind h = h
choice-agreed (Some (of_member m)) (Some of_given_text) kind h = cc
choice-agreed (Some (of_member m)) (Some of_written_text) kind h = cc

pub choice-bits : (x y : Option Kind) → agreed x y ≡ None → choice_kind x y ≡ on_two x y at_larger
choice-bits None y h = refl
choice-bits (Some of_given_text) y h = refl
choice-bits (Some of_written_text) y h = refl
choice-bits (Some (of_bits a b)) None h = refl
choice-bits (Some (of_bits a b)) (Some (of_bits c d)) h = refl
choice-bits (Some (of_bits a b)) (Some of_flag) h = refl
choice-bits (Some (of_bits a b)) (Some (of_member l)) h = refl
choice-bits (Some (of_bits a b)) (Some of_given_text) h = refl
choice-bits (Some (of_bits a b)) (Some of_written_text) h = refl
choice-bits (Some of_flag) None h = refl
choice-bits (Some of_flag) (Some (of_bits a b)) h = refl
choice-bits (Some of_flag) (Some of_flag) h = cc
choice-bits (Some of_flag) (Some (of_member l)) h = refl
choice-bits (Some of_flag) (Some of_given_text) h = refl
choice-bits (Some of_flag) (Some of_written_text) h = refl
choice-bits (Some (of_member m)) None h = refl
choice-bits (Some (of_member m)) (Some (of_bits a b)) h = refl
choice-bits (Some (of_member m)) (Some of_flag) h = refl
choice-bits (Some (of_member m)) (Some (of_member l)) h = h
choice-bits (Some (of_member m)) (Some of_given_text) h = refl
choice-bits (Some (of_member m)) (Some of_written_text) h = refl

pub ruleset choice_steps = (choice-agreed, choice-bits)
