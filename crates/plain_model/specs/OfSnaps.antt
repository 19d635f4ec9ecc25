-- What comes next of CREATE DATABASE .. AS SNAPSHOT OF, DROP DATABASE and RESTORE DATABASE.
use Rattle.std.specs.Prelude.{ℕ, ◌-◌, ◌^◌, nat_le, Bool, ◌==◌, ◌&&◌, ◌||◌, not, List, [], ◌∷◌, length, map, Option, Some, None, option_map}
use Rattle.std.specs.Str.{bytes_eq}
use Rattle.std.specs.List.{list_all, list_any}
use Rattle.page_base.specs.declared.limits.TheConstants.{MAX_SNAPSHOTS}
use Rattle.plain_model.specs.declared.stmt.SnapFile.{SnapFile}
use Rattle.plain_model.specs.declared.reply.Message.{Message}
use Rattle.plain_model.specs.declared.reply.TheConstants.Message.{IN_TRANSACTION, NO_DATABASE, SUSPECT, RESTORING, DATABASE_IS_THERE, IN_USE, IN_USE_HERE, NOT_THE_SOURCE, FILE_LIST, FILE_IS_THERE, NOT_A_SNAPSHOT, TOO_MANY_SNAPSHOTS, DATABASE_IN_USE, BEING_MADE, OTHER_SNAPSHOT, FILE_FAILED, REVERT_FAILED}
use Rattle.plain_model.specs.declared.reply.Reply.TheVariants.{Ok}
use Rattle.plain_model.specs.State.{Plain, session, is_source, is_snap, is_suspect, is_being_made, is_restoring}
use Rattle.plain_model.specs.Messages.{plain, at_place, of_name}
use Rattle.plain_model.specs.Sound.{are_distinct}
use Rattle.plain_model.specs.Users.{user_of, is_in_either, in_use_by, other_snap}
use Rattle.plain_model.specs.Coming.{Next, Replies, Cuts, Restores, unless, unless_shape, is_database}

-- these are the data files, each once; their names are all different
abbrev pub is_each_once : List (List ℕ) → List (List ℕ) → Bool
is_each_once names files = length names == length files && list_all (λ f. list_any (bytes_eq f) names) files

-- a name is on the volume, or stands twice in the list
abbrev pub is_taken : Plain → List (List ℕ) → Bool
is_taken st names = list_any (λ n. list_any (bytes_eq n) st.on_volume) names || not (are_distinct names)

-- eight snapshots are there, or no cut number is left
abbrev pub is_full : Plain → Bool
is_full st = nat_le MAX_SNAPSHOTS (length st.snaps) || nat_le (2 ^ 64 - 1) st.next_cut

abbrev pub logical_names : List SnapFile → List (List ℕ)
logical_names files = map (λ f. f.logical) files

abbrev pub sparse_names : List SnapFile → List (List ℕ)
sparse_names files = map (λ f. f.path) files

-- the refusals of CREATE DATABASE that come before its files are looked for
abbrev pub no_snap : Plain → ℕ → List ℕ → List SnapFile → List ℕ → List (Bool × Message)
no_snap st k snap files of =
    (nat_le 1 (session st k).depth, plain IN_TRANSACTION) ∷ (is_database st snap, plain DATABASE_IS_THERE) ∷ (not (is_database st of), plain NO_DATABASE) ∷ (not (is_source st of), plain NOT_THE_SOURCE)
    ∷ (is_restoring st of, plain RESTORING) ∷ (not (is_each_once (logical_names files) st.opening.files), plain FILE_LIST) ∷ []

-- the refusals by what is on the volume and in the catalog
abbrev pub no_room : Plain → List SnapFile → List (Bool × Message)
no_room st files = (is_taken st (sparse_names files), plain FILE_IS_THERE) ∷ (is_full st, plain TOO_MANY_SNAPSHOTS) ∷ []

-- CREATE DATABASE: the cut past its checks, and once it is made the reply
abbrev pub next_snap : Plain → ℕ → Option (List ℕ) → List ℕ → List SnapFile → List ℕ → Next
next_snap st k (Some made) snap files of = unless ((is_suspect st made, plain FILE_FAILED) ∷ []) (Replies Ok)
next_snap st k None snap files of = unless (no_snap st k snap files of) (unless (no_room st files) (Cuts snap))

-- the refusals of DROP DATABASE that come before its users are looked for
abbrev pub no_drop : Plain → ℕ → List ℕ → List (Bool × Message)
no_drop st k d = (nat_le 1 (session st k).depth, plain IN_TRANSACTION) ∷ (not (is_database st d), plain NO_DATABASE) ∷ (is_restoring st d, plain RESTORING) ∷ (not (is_snap st d), plain NOT_A_SNAPSHOT) ∷ []

-- DROP DATABASE
abbrev pub next_drop : Plain → ℕ → List ℕ → Next
next_drop st k d =
    unless (no_drop st k d) (unless_shape (option_map (at_place DATABASE_IN_USE) (user_of st d))
    (unless ((is_being_made st d, plain BEING_MADE) ∷ []) (Replies Ok)))

-- the refusals of RESTORE that come before other snapshots are looked for
abbrev pub no_restore : Plain → ℕ → List ℕ → List ℕ → List (Bool × Message)
no_restore st k d snap =
    (nat_le 1 (session st k).depth, plain IN_TRANSACTION) ∷ (not (is_database st d) || not (is_snap st snap), plain NO_DATABASE) ∷ (not (is_source st d), plain NOT_THE_SOURCE)
    ∷ (is_restoring st d, plain RESTORING) ∷ (is_in_either d snap (session st k), plain IN_USE_HERE) ∷ []

-- RESTORE: past its checks it begins, and once it has begun the reply
abbrev pub next_restore : Plain → ℕ → Option (List ℕ) → List ℕ → List ℕ → Next
next_restore st k (Some begun) d snap = unless ((is_suspect st begun, plain REVERT_FAILED) ∷ []) (Replies Ok)
next_restore st k None d snap =
    unless (no_restore st k d snap) (unless_shape (option_map (λ s. of_name OTHER_SNAPSHOT s.name) (other_snap st snap))
    (unless ((is_being_made st snap, plain BEING_MADE) ∷ (is_suspect st snap, plain SUSPECT) ∷ [])
    (unless_shape (option_map (at_place IN_USE) (in_use_by st k d snap))
    (Restores snap))))
