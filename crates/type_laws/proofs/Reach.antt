-- The functions that a call reaches in so many turns: a called function and all that it calls are among them.
use Rattle.std.proofs.Common.{◌≡◌, ◌++◌, Bool, true, false, ℕ, List, [], ◌∷◌, map, refl, sym, ap, ◌∙◌, subst, ◌⊎◌, inl, inr}
use Rattle.std.specs.Prelude.{◌||◌, ◌&&◌, not, filter, if◌then◌else◌}
use Rattle.std.specs.List.{list_all, list_any}
use Rattle.std.specs.Cmp.Lexicographic.{bytes_decides}
use Rattle.udb_base.specs.Lists.{is_among}
use Rattle.udb_spec.specs.Conditions.{same_bytes}
use Rattle.idl_tree.specs.Each.{Each}
use Rattle.idl_tree.specs.declared.programs.Function.{Function}
use Rattle.idl_spec.specs.Settings.{Setting}
use Rattle.idl_spec.specs.Deeds.{Deed, calls, reads_field, reads_state, reads_memory, acts, function_deeds, called_names, calls_function, with_called, repeated_for, leaves_fields, stays_in_fields}
use Rattle.type_laws.specs.Kinds.{below_field, may_call, DeedOk}

-- ---- lists

abbrev pub Has : {X : Type 0} → List X → X → Type 0
Has [] x = ⊥
Has (y ∷ ys) x = (y ≡ x) ⊎ Has ys x

pub each_has : {X : Type 0} (P : X → Type 0) (xs : List X) → ((x : X) → Has xs x → P x) → Each P xs
each_has P [] h = tt
each_has P (x ∷ xs) h = (h x (inl refl), each_has P xs (λ y k. h y (inr k)))

pub has_front : {X : Type 0} (xs ys : List X) (x : X) → Has xs x → Has (xs ++ ys) x
has_front [] ys x h = absurd h
has_front (z ∷ zs) ys x (inl e) = inl e
has_front (z ∷ zs) ys x (inr h) = inr (has_front zs ys x h)

pub has_back : {X : Type 0} (xs ys : List X) (x : X) → Has ys x → Has (xs ++ ys) x
has_back [] ys x h = h
has_back (z ∷ zs) ys x h = inr (has_back zs ys x h)

or_cases : (a b : Bool) → (a || b) ≡ true → (a ≡ true) ⊎ (b ≡ true)
or_cases true b h = inl refl
or_cases false b h = inr h

or_left : (a b : Bool) → a ≡ true → (a || b) ≡ true
or_left true b h = refl
or_left false b h = absurd (cc)

or_right : (a b : Bool) → b ≡ true → (a || b) ≡ true
or_right true b h = refl
or_right false b h = h

and_left : (a b : Bool) → (a && b) ≡ true → a ≡ true
and_left true b h = refl
and_left false b h = absurd (cc)

and_right : (a b : Bool) → (a && b) ≡ true → b ≡ true
and_right true b h = h
and_right false b h = absurd (cc)

and_both : (a b : Bool) → a ≡ true → b ≡ true → (a && b) ≡ true
and_both true b h k = k
and_both false b h k = absurd (cc)

module _ {X : Type 0} (p : X → Bool) where
  pub record Passing (xs : List X) : Type 0 where
    pub one : X
    pub has : Has xs one
    pub passes : p one ≡ true

  any_has : (xs : List X) → list_any p xs ≡ true → Passing xs
  any_has [] h = absurd (cc)
  any_has (x ∷ xs) h = at (or_cases (p x) (list_any p xs) h) (any_has xs)
    where
      at : (p x ≡ true) ⊎ (list_any p xs ≡ true) → (list_any p xs ≡ true → Passing xs) → Passing (x ∷ xs)
      at (inl e) more = record { one = x; has = inl refl; passes = e }
      at (inr e) more = let o : Passing xs = more e in record { one = o.one; has = inr o.has; passes = o.passes }

  has_any : (xs : List X) (x : X) → Has xs x → p x ≡ true → list_any p xs ≡ true
  has_any [] x h e = absurd h
  has_any (y ∷ ys) x (inl k) e = or_left (p y) (list_any p ys) (ap p k ∙ e)
  has_any (y ∷ ys) x (inr k) e = or_right (p y) (list_any p ys) (has_any ys x k e)

  pub all_has : (xs : List X) (x : X) → list_all p xs ≡ true → Has xs x → p x ≡ true
  all_has [] x h k = absurd k
  all_has (y ∷ ys) x h (inl k) = ap p (sym k) ∙ and_left (p y) (list_all p ys) h
  all_has (y ∷ ys) x h (inr k) = all_has ys x (and_right (p y) (list_all p ys) h) k

  has_all : (xs : List X) → ((x : X) → Has xs x → p x ≡ true) → list_all p xs ≡ true
  has_all [] h = refl
  has_all (x ∷ xs) h = and_both (p x) (list_all p xs) (h x (inl refl)) (has_all xs (λ y k. h y (inr k)))

  filter_has : (xs : List X) (x : X) → Has (filter p xs) x → Has xs x × (p x ≡ true)
  filter_has [] x h = absurd h
  filter_has (y ∷ ys) x h = at (p y) refl h (λ k. let m = filter_has ys x k in (inr m.0, m.1))
    where
      at : (b : Bool) → p y ≡ b → Has (if b then y ∷ filter p ys else filter p ys) x → (Has (filter p ys) x → Has (y ∷ ys) x × (p x ≡ true)) → Has (y ∷ ys) x × (p x ≡ true)
      at true e (inl k) rest = (inl k, ap p (sym k) ∙ e)
      at true e (inr k) rest = rest k
      at false e k rest = rest k

  has_filter : (xs : List X) (x : X) → Has xs x → p x ≡ true → Has (filter p xs) x
  has_filter [] x h e = absurd h
  has_filter (y ∷ ys) x (inl k) e = subst (λ (b : Bool). Has (if b then y ∷ filter p ys else filter p ys) x) (sym (ap p k ∙ e)) (inl k)
  has_filter (y ∷ ys) x (inr k) e = at (p y) (has_filter ys x k e)
    where
      at : (b : Bool) → Has (filter p ys) x → Has (if b then y ∷ filter p ys else filter p ys) x
      at true k = inr k
      at false k = k

any_map : {X Y : Type 0} (f : X → Y) (p : Y → Bool) (xs : List X) → list_any p (map f xs) ≡ list_any (λ x. p (f x)) xs
any_map f p [] = refl
any_map f p (x ∷ xs) = ap (λ b. p (f x) || b) (any_map f p xs)

same_self : (name : List ℕ) → same_bytes name name ≡ true
same_self name = (bytes_decides name name).1 refl

-- a called name is among the called names
called_has : (deeds : List Deed) (name : List ℕ) → Has deeds (calls name) → Has (called_names deeds) name
called_has [] name h = absurd h
called_has (d ∷ ds) name (inl k) = subst (λ z. Has (called_names (z ∷ ds)) name) (sym k) (inl refl)
called_has (calls x ∷ ds) name (inr k) = inr (called_has ds name k)
called_has (reads_field ∷ ds) name (inr k) = called_has ds name k
called_has (reads_state ∷ ds) name (inr k) = called_has ds name k
called_has (reads_memory ∷ ds) name (inr k) = called_has ds name k
called_has (acts ∷ ds) name (inr k) = called_has ds name k

-- ---- turns

module _ (fs : List Function) where
  abbrev Sub : List Function → List Function → Type 0
  Sub xs ys = (f : Function) → Has xs f → Has ys f

  abbrev passes_on : List Function → Function → Bool
  passes_on some g = is_among same_bytes g.name (map (λ f. f.name) some) || list_any (λ f. calls_function f g) some

  among : (some : List Function) (g : Function) → is_among same_bytes g.name (map (λ f. f.name) some) ≡ list_any (λ f. same_bytes g.name f.name) some
  among some g = any_map (λ f. f.name) (same_bytes g.name) some

  on_more : (xs ys : List Function) → Sub xs ys → (g : Function) → passes_on xs g ≡ true → passes_on ys g ≡ true
  on_more xs ys sub g h = at (or_cases (is_among same_bytes g.name (map (λ f. f.name) xs)) (list_any (λ f. calls_function f g) xs) h)
    where
      more : (p : Function → Bool) → list_any p xs ≡ true → list_any p ys ≡ true
      more p h = let o : Passing p xs = any_has p xs h in has_any p ys o.one (sub o.one o.has) o.passes

      at : (is_among same_bytes g.name (map (λ f. f.name) xs) ≡ true) ⊎ (list_any (λ f. calls_function f g) xs ≡ true) → passes_on ys g ≡ true
      at (inl e) = or_left (is_among same_bytes g.name (map (λ f. f.name) ys)) _ (among ys g ∙ more (λ f. same_bytes g.name f.name) (sym (among xs g) ∙ e))
      at (inr e) = or_right (is_among same_bytes g.name (map (λ f. f.name) ys)) _ (more (λ f. calls_function f g) e)

  with_more : (xs ys : List Function) → Sub xs ys → Sub (with_called fs xs) (with_called fs ys)
  with_more xs ys sub f h =
      let k = filter_has (passes_on xs) fs f h in
      has_filter (passes_on ys) fs f k.0 (on_more xs ys sub f k.1)

  with_inside : (xs : List Function) → Sub (with_called fs xs) fs
  with_inside xs f h = (filter_has (passes_on xs) fs f h).0

  with_kept : (xs : List Function) → Sub xs fs → Sub xs (with_called fs xs)
  with_kept xs sub f h =
      has_filter (passes_on xs) fs f (sub f h)
      (or_left (is_among same_bytes f.name (map (λ g. g.name) xs)) _ (among xs f ∙ has_any (λ g. same_bytes f.name g.name) xs f h (same_self f.name)))

  repeated_more : (turns xs ys : List Function) → Sub xs ys → Sub (repeated_for turns fs xs) (repeated_for turns fs ys)
  repeated_more [] xs ys sub = sub
  repeated_more (t ∷ ts) xs ys sub = with_more (repeated_for ts fs xs) (repeated_for ts fs ys) (repeated_more ts xs ys sub)

  repeated_inside : (turns xs : List Function) → Sub xs fs → Sub (repeated_for turns fs xs) fs
  repeated_inside [] xs sub = sub
  repeated_inside (t ∷ ts) xs sub = with_inside (repeated_for ts fs xs)

  repeated_kept : (turns xs : List Function) → Sub xs fs → Sub xs (repeated_for turns fs xs)
  repeated_kept [] xs sub f h = h
  repeated_kept (t ∷ ts) xs sub f h = with_kept (repeated_for ts fs xs) (repeated_inside ts xs sub) f (repeated_kept ts xs sub f h)

  swap : (turns xs : List Function) → repeated_for turns fs (with_called fs xs) ≡ with_called fs (repeated_for turns fs xs)
  swap [] xs = refl
  swap (t ∷ ts) xs = ap (with_called fs) (swap ts xs)

  one_turn : (turns : List Function) (t : Function) (xs : List Function) → repeated_for (turns ++ t ∷ []) fs xs ≡ with_called fs (repeated_for turns fs xs)
  one_turn [] t xs = refl
  one_turn (u ∷ us) t xs = ap (with_called fs) (one_turn us t xs)

  abbrev named : List ℕ → List Function
  named name = filter (λ f. is_among same_bytes f.name (name ∷ [])) fs

  named_inside : (name : List ℕ) → Sub (named name) fs
  named_inside name f h = (filter_has (λ f. is_among same_bytes f.name (name ∷ [])) fs f h).0

  has_named : (name : List ℕ) (f : Function) → Has fs f → f.name ≡ name → Has (named name) f
  has_named name f h e =
      has_filter (λ f. is_among same_bytes f.name (name ∷ [])) fs f h (or_left (same_bytes f.name name) false ((bytes_decides f.name name).1 e))

  named_is : (name : List ℕ) (f : Function) → Has (named name) f → f.name ≡ name
  named_is name f h = at (or_cases (same_bytes f.name name) false (filter_has (λ f. is_among same_bytes f.name (name ∷ [])) fs f h).1)
    where
      at : (same_bytes f.name name ≡ true) ⊎ (false ≡ true) → f.name ≡ name
      at (inl e) = (bytes_decides f.name name).0 e
      at (inr e) = absurd (cc)

  -- what a function of the name calls is called with it
  below_named : (name : List ℕ) (f : Function) → Has fs f → f.name ≡ name → (inner : List ℕ) → Has (function_deeds f) (calls inner) → Sub (named inner) (with_called fs (named name))
  below_named name f h e inner deed g k =
      has_filter (passes_on (named name)) fs g (named_inside inner g k)
      (or_right (is_among same_bytes g.name (map (λ f. f.name) (named name))) _
      (has_any (λ f. calls_function f g) (named name) f (has_named name f h e)
      (has_any (same_bytes g.name) (called_names (function_deeds f)) inner (called_has (function_deeds f) inner deed) ((bytes_decides g.name inner).1 (named_is inner g k)))))

  module _ (reads : Bool) where
    abbrev quiet : Function → Bool
    quiet f = stays_in_fields reads f.body.statements

    all_below : (xs ys : List Function) → Sub xs ys → list_all quiet ys ≡ true → list_all quiet xs ≡ true
    all_below xs ys sub h = has_all quiet xs (λ f k. all_has quiet ys f h (sub f k))

    may_turn : (earlier : List Function) (f : Function) (name : List ℕ) → may_call reads fs (earlier ++ f ∷ []) name ≡ true → list_all quiet (with_called fs (repeated_for earlier fs (named name))) ≡ true
    may_turn earlier f name h = subst (λ xs. list_all quiet xs ≡ true) (one_turn earlier f (named name)) h

    -- with fewer turns too
    pub may_sooner : (earlier : List Function) (f : Function) (name : List ℕ) → may_call reads fs (earlier ++ f ∷ []) name ≡ true → may_call reads fs earlier name ≡ true
    may_sooner earlier f name h =
        all_below (repeated_for earlier fs (named name)) (with_called fs (repeated_for earlier fs (named name)))
        (with_kept (repeated_for earlier fs (named name)) (repeated_inside earlier (named name) (named_inside name))) (may_turn earlier f name h)

    -- the called function itself
    pub may_itself : (turns : List Function) (f : Function) → Has fs f → may_call reads fs turns f.name ≡ true → stays_in_fields reads f.body.statements ≡ true
    may_itself turns f has h = all_has quiet (repeated_for turns fs (named f.name)) f h (repeated_kept turns (named f.name) (named_inside f.name) f (has_named f.name f has refl))

    -- what the called function calls
    pub may_below : (earlier : List Function) (f : Function) → Has fs f → may_call reads fs (earlier ++ f ∷ []) f.name ≡ true → (inner : List ℕ) → Has (function_deeds f) (calls inner) → may_call reads fs earlier inner ≡ true
    may_below earlier f has h inner deed =
        all_below (repeated_for earlier fs (named inner)) (with_called fs (repeated_for earlier fs (named f.name)))
        (λ g k. subst (λ xs. Has xs g) (swap earlier (named f.name))
        (repeated_more earlier (named inner) (with_called fs (named f.name)) (below_named f.name f has refl inner deed) g k))
        (may_turn earlier f f.name h)

-- ---- deeds

not_true : (b : Bool) → not b ≡ true → b ≡ false
not_true true h = absurd (cc)
not_true false h = refl

none_has : {X : Type 0} (p : X → Bool) (xs : List X) (x : X) → list_any p xs ≡ false → Has xs x → p x ≡ false
none_has p xs x h k = at (p x) refl
  where
    at : (b : Bool) → p x ≡ b → b ≡ false
    at false e = refl
    at true e = absurd (let a = has_any p xs x k e in cc)

-- what a function does that a body of a field may call is allowed
pub deeds_below : (e : Setting) (reads : Bool) (earlier : List Function) (f : Function) → Has e.program.functions f → may_call reads e.program.functions (earlier ++ f ∷ []) f.name ≡ true
    → Each (DeedOk e (below_field reads) earlier) (function_deeds f)
deeds_below e reads earlier f has h = each_has (DeedOk e (below_field reads) earlier) (function_deeds f) at
  where
    stays : (d : Deed) → Has (function_deeds f) d → leaves_fields reads d ≡ false
    stays d k = none_has (leaves_fields reads) (function_deeds f) d (not_true _ (may_itself e.program.functions reads (earlier ++ f ∷ []) f has h)) k

    at : (d : Deed) → Has (function_deeds f) d → DeedOk e (below_field reads) earlier d
    at (calls inner) k = may_below e.program.functions reads earlier f has h inner k
    at reads_field k = stays reads_field k
    at reads_state k = stays reads_state k
    at reads_memory k = stays reads_memory k
    at acts k = stays acts k
