-- What the router holds: a row for each route.
use Rattle.std.specs.Prelude.{ℕ, List, [], ◌∷◌, ◌++◌, codes}
use Rattle.matchit.specs.Rows.{RowsOf, param_token}
use Rattle.matchit.specs.Router.{RouteOf}
use Rattle.udb_http.specs.declared.paths.Place.{Place}
use Rattle.udb_http.specs.declared.paths.Place.TheVariants.{Entries, Entry, Manual, Decode, Run, Proof}

-- a parameter and a slash, and a last parameter
abbrev pub one_more : List ℕ → List ℕ
one_more tokens = param_token ∷ 47 ∷ tokens

abbrev pub last : List ℕ
last = param_token ∷ []

abbrev pub row_of : Place → RouteOf Place
row_of Entries = record { pattern = codes "/entries"; text = codes "/entries"; names = []; value = Entries }
row_of Entry = record {
  pattern = codes "/entries/" ++ one_more last;
  text = codes "/entries/{kind}/{name}";
  names = (10, 14) ∷ (17, 21) ∷ [];
  value = Entry;
}
row_of Manual = record {
  pattern = codes "/manuals/" ++ last;
  text = codes "/manuals/{config}";
  names = (10, 16) ∷ [];
  value = Manual;
}
row_of Decode = record {
  pattern = codes "/decode/" ++ one_more last;
  text = codes "/decode/{config}/{hex}";
  names = (9, 15) ∷ (18, 21) ∷ [];
  value = Decode;
}
row_of Run = record {
  pattern = codes "/runs/" ++ one_more last;
  text = codes "/runs/{config}/{steps}";
  names = (7, 13) ∷ (16, 21) ∷ [];
  value = Run;
}
row_of Proof = record {
  pattern = codes "/proofs/" ++ one_more (one_more last);
  text = codes "/proofs/{config}/{kind}/{name}";
  names = (9, 15) ∷ (18, 22) ∷ (25, 29) ∷ [];
  value = Proof;
}

abbrev pub row : Place → List ℕ × RouteOf Place
row place = ((row_of place).pattern, row_of place)

-- in the order in which the router keeps them
abbrev pub table_rows : RowsOf (RouteOf Place)
table_rows = row Decode ∷ row Entry ∷ row Entries ∷ row Manual ∷ row Proof ∷ row Run ∷ []
