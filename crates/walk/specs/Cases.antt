-- The ten cases of the scope with a star, as rows. `proofs/Cases.antt` proves that each row says what the definitions give.
use Rattle.std.specs.Prelude.{ℕ, ◌≡◌, List, [], ◌∷◌, ◌++◌, Bool, true, false, ℤ}
use Prim.Native.Char.{code}
use Prim.Native.String.{String}
use Rattle.walk.specs.declared.PermissionState.{PermissionState}
use Rattle.walk.specs.declared.PermissionState.TheVariants.{
  Granted,
  GrantedPartial,
  Prompt,
  Denied,
  DeniedPartial,
  Ignored,
}
use Rattle.walk.specs.declared.AllowPartial.{AllowPartial}
use Rattle.walk.specs.declared.AllowPartial.TheVariants.{TreatAsDenied, TreatAsPartialGranted}
use Rattle.walk.specs.Walk.{query_desc}
use Rattle.table.specs.declared.Kind.{Kind}
use Rattle.table.specs.declared.Kind.TheVariants.{G, D, P}
use Rattle.table.specs.Entries.{Entry, compare}
use Rattle.table.specs.Tables.{fresh, flag_ignored}
use Rattle.table.specs.Acts.{Act, insert, set_switches, revoke, apply_acts}
use Rattle.paths.specs.Resolving.{resolve}
use Rattle.paths.specs.Giving.{Query, no_path, path}
use Rattle.paths.specs.Relations.{is_prefix, path_order, less}

-- the bytes of a text in ASCII
unfoldable pub bytes : String → List ℕ
bytes String.[] = []
bytes (String.◌∷◌ c s) = code c ∷ bytes s

-- an entry, written as the scope writes it, `G/z/b`
unfoldable pub entry : Kind → String → Entry
entry kind p = record { kind = kind; path = bytes p }

-- what a case asks, and the answer that it expects
pub data Case : Type 0 where
  -- the first path is a prefix of the second, or not
  prefix : String → String → Bool → Case
  prefix_of_all : String → Case
  order : String → String → ℤ → Case
  -- as entries, of whatever kinds, the first path comes before the second
  precedes : String → String → Case
  -- a path given in the root directory, and the resolved one
  resolved : String → String → Case
  -- acts on a fresh table, and the list that they leave
  list : List Act → List Entry → Case
  -- acts on a fresh table, a query, and its state; where a line names no mode it is partial, as in the Rust's `query`
  query : List Act → AllowPartial → Query → PermissionState → Case

-- the definitions give what the case expects
unfoldable pub Right : Case → Type 0
Right (prefix p q expected) = is_prefix (bytes p) (bytes q) ≡ expected
Right (prefix_of_all p) = (q : List ℕ) → is_prefix (bytes p) q ≡ true
Right (order p q expected) = path_order (bytes p) (bytes q) ≡ expected
Right (precedes p q) = (j k : Kind) → compare (entry j p) (entry k q) ≡ less
Right (resolved p expected) = resolve (bytes p) (bytes "/") ≡ bytes expected
Right (list acts expected) = (apply_acts fresh acts).entries ≡ expected
Right (query acts mode d expected) = query_desc (apply_acts fresh acts) mode d ≡ expected

-- a case for each statement of the starred line that `text` quotes
pub record Row : Type 0 where
  pub text : String
  pub cases : List Case

-- the three inserts of a case's sequence
abbrev deny_first : List Act
deny_first = insert (entry D "/z") ∷ insert (entry G "/c") ∷ insert (entry G "/z/b") ∷ []

abbrev grant_first : List Act
grant_first = insert (entry G "/z/b") ∷ insert (entry D "/z") ∷ insert (entry G "/c") ∷ []

abbrev partly : List Act
partly = insert (entry G "/a") ∷ insert (entry D "/a/k") ∷ []

abbrev revoked : List Act
revoked =
    insert (entry G "/a") ∷ insert (entry G "/a/b") ∷ insert (entry G "/a/b/c") ∷ revoke (bytes "/a/b") ∷ []

abbrev pub rows : List Row
rows =
    record {
      text = "`/a` is a prefix of `/a/b`, not of `/ab`; `/` of all.";
      cases = prefix "/a" "/a/b" true ∷ prefix "/a" "/ab" false ∷ prefix_of_all "/" ∷ [];
    }
    ∷ record {
      text = "`/a/b` precedes `/a-b`, and as entry precedes `/a`.";
      cases = order "/a/b" "/a-b" less ∷ precedes "/a/b" "/a" ∷ [];
    }
    ∷ record {
      text = "D/z, G/c, G/z/b gives that list; `/z/b/f` Denied.";
      cases =
          list deny_first (entry D "/z" ∷ entry G "/c" ∷ entry G "/z/b" ∷ [])
          ∷ query deny_first TreatAsPartialGranted (path (bytes "/z/b/f")) Denied
          ∷ [];
    }
    ∷ record {
      text = "G/z/b, D/z, G/c gives that list; `/z/b/f` Granted.";
      cases =
          list grant_first (entry G "/z/b" ∷ entry D "/z" ∷ entry G "/c" ∷ [])
          ∷ query grant_first TreatAsPartialGranted (path (bytes "/z/b/f")) Granted
          ∷ [];
    }
    ∷ record {
      text = "Then G/d, G/z/b: five entries, G/z/b first and last.";
      cases =
          list (grant_first ++ insert (entry G "/d") ∷ insert (entry G "/z/b") ∷ [])
          (entry G "/z/b" ∷ entry D "/z" ∷ entry G "/c" ∷ entry G "/d" ∷ entry G "/z/b" ∷ [])
          ∷ [];
    }
    ∷ record {
      text = "P/a/b: `/a` Denied, `/a/b/c` Prompt.";
      cases =
          query (insert (entry P "/a/b") ∷ []) TreatAsPartialGranted (path (bytes "/a")) Denied
          ∷ query (insert (entry P "/a/b") ∷ []) TreatAsPartialGranted (path (bytes "/a/b/c")) Prompt
          ∷ [];
    }
    ∷ record {
      text = "G/a, D/a/k: list D, G; `/a` GrantedPartial, in mode *denied* DeniedPartial.";
      cases =
          list partly (entry D "/a/k" ∷ entry G "/a" ∷ [])
          ∷ query partly TreatAsPartialGranted (path (bytes "/a")) GrantedPartial
          ∷ query partly TreatAsDenied (path (bytes "/a")) DeniedPartial
          ∷ [];
    }
    ∷ record {
      text = "G/a, G/a/b, G/a/b/c, revoke `/a/b`: G/a/b/c stays; Prompt.";
      cases =
          list revoked (entry G "/a/b/c" ∷ [])
          ∷ query revoked TreatAsPartialGranted (path (bytes "/a/b")) Prompt
          ∷ [];
    }
    ∷ record {
      text = "P/a, no path: Denied; with switch 4, Ignored.";
      cases =
          query (insert (entry P "/a") ∷ []) TreatAsPartialGranted no_path Denied
          ∷ query (insert (entry P "/a") ∷ set_switches flag_ignored ∷ []) TreatAsPartialGranted no_path Ignored
          ∷ [];
    }
    ∷ record {
      text = "`/a/./b//../c/` is `/a/c`; `/..` is `/`.";
      cases = resolved "/a/./b//../c/" "/a/c" ∷ resolved "/.." "/" ∷ [];
    }
    ∷ []

-- every case of the rows is right
abbrev pub AllRight : List Case → Type 0
AllRight [] = Unit {0}
AllRight (c ∷ cs) = Right c × AllRight cs

abbrev pub EveryRow : List Row → Type 0
EveryRow [] = Unit {0}
EveryRow (r ∷ rs) = AllRight r.cases × EveryRow rs
