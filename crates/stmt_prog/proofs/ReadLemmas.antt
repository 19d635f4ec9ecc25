-- What pages that were read tell, over each table and database that was read so.
use Rattle.std.proofs.Common.{refl, ◌≡◌, ℕ, Bool, true, false, cond, List, [], ◌∷◌, ap, sym, ◌∙◌, subst, arith, Result, Err, Ok, IfOk, suc, zero}
use Rattle.std.specs.Prelude.{Option, Some, None, All, ◌<◌, ◌^◌, ◌-◌}
use Rattle.std.specs.FinMap as finite
use Rattle.std.specs.List.{Any, AllByRecursion}
use Rattle.std.specs.Str.{bytes_eq}
use Rattle.page_base.specs.declared.column.Column.{Column}
use Rattle.page_base.specs.declared.numbers.PageId.{PageId}
use Rattle.page_base.specs.declared.value.Value.{Value}
use Rattle.page_fmt.specs.Seen.{SlotsAt, Looked, Shows}
use Rattle.plain_model.specs.declared.reply.Message.{Message}
use Rattle.plain_model.specs.declared.reply.TheConstants.Message.{NO_TABLE, TABLE_IS_THERE}
use Rattle.plain_model.specs.declared.stmt.Stmt.{Stmt}
use Rattle.plain_model.specs.declared.stmt.Stmt.TheVariants.{CreateTable, DropTable, Insert, Select, Update, Delete}
use Rattle.plain_model.specs.Free.{is_of_tables}
use Rattle.plain_model.specs.Messages.{plain}
use Rattle.plain_model.specs.Meaning.{shape}
use Rattle.plain_model.specs.Statements.{shape_over, is_of_rows, table_named}
use Rattle.plain_model.specs.Tables.{Rows, Table, Tables, IsTable}
use Rattle.plain_steps.proofs.LockLemmas.{same_bytes, bytes_same}
use Rattle.sys_cat.specs.declared.desc.TableDesc.{TableDesc}
use Rattle.sys_cat.specs.declared.desc.DescRefusal.{DescRefusal}
use Rattle.sys_cat.specs.declared.desc.DescRefusal.TheVariants as descs
use Rattle.sys_cat.specs.Answers.{GivesDescs}
use Rattle.sys_cat.specs.Lists.{AreTables, AreDescs, IsDesc, has_number}
use Rattle.sys_cat.specs.Rows.{table_0, zero_root}
use Rattle.table_walk.specs.declared.find.Find.TheVariants as finds
use Rattle.table_walk.specs.declared.refusal.SeenRefusal.{SeenRefusal}
use Rattle.table_walk.specs.declared.refusal.SeenRefusal.TheVariants as seen
use Rattle.table_walk.specs.Answers.{asked, IsMemory}
use Rattle.table_walk.specs.Tables.{HasRows}
use Rattle.page_tables.specs.Bases.{IsBase, HasTable}
use Rattle.page_tables.specs.Layout as layout
use Rattle.page_tables.specs.Owners.{owns}
use Rattle.stmt_course.specs.Keeping.{IsTableOf}
use Rattle.stmt_course.specs.Knowing.{desc_named, IsFound}
use Rattle.stmt_course.proofs.StandLemmas.{is_table, asked_all}
use Rattle.stmt_prog.specs.declared.refusal.Refusal.{Refusal}
use Rattle.stmt_prog.specs.declared.refusal.Refusal.TheVariants as ours
use Rattle.stmt_prog.specs.Heads.{creates, drops}
use Rattle.stmt_prog.specs.Reading.{HasCols, OfBases, OfRows}
use Rattle.stmt_prog.specs.Refusing.{IfSaid, of_seen, of_descs}

-- ---- what is damaged is no table

pub no_rows : (cols : List Column) (root : PageId) (looked : List Looked) (e : SeenRefusal) → ((at : SlotsAt) (owns : PageId → Bool) (rows : Rows) → HasRows layout.shape cols at owns (layout.first root) rows → Shows looked at → IsMemory e)
    → IfSaid (λ m. OfRows cols root looked (λ rows. ⊥)) (of_seen e)
no_rows cols root looked (seen.Damaged page slot) f = λ at owns rows table shows. f at owns rows table shows
no_rows cols root looked seen.Memory f = tt

zero_pages : (cols : List Column) (root : PageId) (files : List ℕ) (at : SlotsAt) (ds : List TableDesc) (tables : Tables) (b : IsBase files at ds tables) → cols ≡ table_0 → root ≡ zero_root
    → (owns : PageId → Bool) × HasRows layout.shape cols at owns (layout.first root) b.zero_rows
zero_pages cols root files at ds tables b c r =
    (owns files at 0, subst (λ q. HasRows layout.shape cols at (owns files at 0) (layout.first q) b.zero_rows) (sym r) (subst (λ cs. HasRows layout.shape cs at (owns files at 0) (layout.first zero_root) b.zero_rows) (sym c) b.zero_pages))

pub no_base : (cols : List Column) (root : PageId) (looked : List Looked) (e : SeenRefusal) → cols ≡ table_0 → root ≡ zero_root
    → ((at : SlotsAt) (owns : PageId → Bool) (rows : Rows) → HasRows layout.shape cols at owns (layout.first root) rows → Shows looked at → IsMemory e)
    → IfSaid (λ m. OfBases looked (λ ds tables. ⊥)) (of_seen e)
no_base cols root looked (seen.Damaged page slot) c r f = λ files at ds tables b shows. (let z = zero_pages cols root files at ds tables b c r in f at z.0 b.zero_rows z.1 shows)
no_base cols root looked seen.Memory c r f = tt

-- ---- the rows of table 0

abbrev pub GivesRows : List Column → PageId → List Looked → List (List Value) → Type 0
GivesRows cols root looked list = (at : SlotsAt) (owns : PageId → Bool) (rows : Rows) → HasRows layout.shape cols at owns (layout.first root) rows → Shows looked at → list ≡ finite.values (asked finds.All rows)

list_is : (cols : List Column) (root : PageId) (looked : List Looked) (list : List (List Value)) → cols ≡ table_0 → root ≡ zero_root → GivesRows cols root looked list → OfBases looked (λ ds tables. AreTables list ds)
list_is cols root looked list c r f = λ files at ds tables b shows.
    let z = zero_pages cols root files at ds tables b c r in
    subst (λ xs. AreTables xs ds) (sym (f at z.0 b.zero_rows z.1 shows ∙ ap finite.values (asked_all b.zero_rows))) b.descs

pub no_list : (cols : List Column) (root : PageId) (looked : List Looked) (list : List (List Value)) (e : DescRefusal) → cols ≡ table_0 → root ≡ zero_root → GivesRows cols root looked list
    → ((ds : List TableDesc) → AreTables list ds → GivesDescs ds (Err e)) → IfSaid (λ m. OfBases looked (λ ds tables. ⊥)) (of_descs e)
no_list cols root looked list (descs.Form row) c r f only = λ files at ds tables b shows. only ds (list_is cols root looked list c r f files at ds tables b shows)
no_list cols root looked list descs.Memory c r f only = tt

pub read_are : (cols : List Column) (root : PageId) (looked : List Looked) (list : List (List Value)) (read : List TableDesc) → cols ≡ table_0 → root ≡ zero_root → GivesRows cols root looked list
    → ((ds : List TableDesc) → AreTables list ds → GivesDescs ds (Ok read)) → OfBases looked (λ ds tables. read ≡ ds)
read_are cols root looked list read c r f only = λ files at ds tables b shows. only ds (list_is cols root looked list c r f files at ds tables b shows)

-- ---- the rows of the statement's table

pub table_read : (cols : List Column) (root : PageId) (looked : List Looked) (list : List (List Value)) → GivesRows cols root looked list → OfRows cols root looked (λ rows. IsTable cols list (record { cols = cols; rows = rows }))
table_read cols root looked list f = λ at owns rows table shows.
    subst (λ xs. IsTable cols xs (record { cols = cols; rows = rows })) (sym (f at owns rows table shows ∙ ap finite.values (asked_all rows))) (is_table cols _ rows table.1.gathers)

-- ---- the statement's table among those that are described

module _ (name : List ℕ) where
  pub named_some : (ds : List TableDesc) (d : TableDesc) → desc_named ds name ≡ Some d → (d.name ≡ name) × Any (λ e. e ≡ d) ds
  named_some [] d e = absurd (let wrong : None ≡ Some d = e in cc)
  named_some (x ∷ xs) d e = by (named_some xs d) (bytes_eq x.name name) refl e
    where
      same_some : (a b : TableDesc) → Some a ≡ Some b → a ≡ b
      same_some a b f = let g : Some a ≡ Some b = f in cc

      by : (desc_named xs name ≡ Some d → (d.name ≡ name) × Any (λ e. e ≡ d) xs) → (b : Bool) → bytes_eq x.name name ≡ b → cond b (Some x) (desc_named xs name) ≡ Some d → (d.name ≡ name) × Any (λ e. e ≡ d) (x ∷ xs)
      by rest true t f = let is = same_some x d f in (ap (λ (z : TableDesc). z.name) (sym is) ∙ same_bytes x.name name t, (0, d, omega arith, is, refl))
      by rest false t f = let later = rest f in (later.0, (suc later.1.0, later.1.1, omega (arith, later.1.2), later.1.3, later.1.4))

  pub named_none : (ds : List TableDesc) → desc_named ds name ≡ None → Any (λ e. e.name ≡ name) ds → ⊥
  named_none [] e a = absurd (omega (arith, a.2))
  named_none (x ∷ xs) e a = by (named_none xs) (bytes_eq x.name name) refl e a
    where
      by : (desc_named xs name ≡ None → Any (λ e. e.name ≡ name) xs → ⊥) → (b : Bool) → bytes_eq x.name name ≡ b → cond b (Some x) (desc_named xs name) ≡ None → Any (λ e. e.name ≡ name) (x ∷ xs) → ⊥
      by rest true t f a = absurd (let wrong : Some x ≡ None = f in cc)
      by rest false t f (zero, d, lt, at, p) = absurd (let wrong : true ≡ false = sym (bytes_same name) ∙ ap (λ n. bytes_eq n name) (sym (ap (λ (z : TableDesc). z.name) at ∙ p)) ∙ t in cc)
      by rest false t f (suc k, d, lt, at, p) = rest f (k, d, omega (arith, lt), at, p)

each_is : (P : TableDesc → Type 0) (ds : List TableDesc) → AllByRecursion P ds → (d : TableDesc) → Any (λ e. e ≡ d) ds → P d
each_is P [] a d any = absurd (omega (arith, any.2))
each_is P (x ∷ xs) a d (zero, y, lt, at, is) = subst P (at ∙ is) a.0
each_is P (x ∷ xs) a d (suc k, y, lt, at, is) = each_is P xs a.1 d (k, y, omega (arith, lt), at, is)

pub base_cols : (files : List ℕ) (at : SlotsAt) (ds : List TableDesc) (tables : Tables) (name : List ℕ) → IsBase files at ds tables → HasCols (desc_named ds name) (finite.get tables name)
base_cols files at ds tables name b = by (desc_named ds name) refl (finite.get tables name) refl
  where
    by : (o : Option TableDesc) → desc_named ds name ≡ o → (t : Option Table) → finite.get tables name ≡ t → HasCols o t
    by None e None f = tt
    by None e (Some t) f = absurd (named_none name ds e (b.only name t f))
    by (Some d) e t f =
        let named = named_some name ds d e in
        let has : HasTable files at tables d = (let any = named.1 in subst (HasTable files at tables) (any.3 ∙ any.4) (b.each any.0 any.1 any.2)) in
        subst (HasCols (Some d)) (sym has.is ∙ ap (finite.get tables) named.0 ∙ f) refl

-- over each database the shape is that over the table which is there
pub shape_is : (stmt : Stmt) (read : List TableDesc) (looked : List Looked) (m : Option Message) → OfBases looked (λ ds tables. read ≡ ds)
    → ((o : Option Table) → HasCols (desc_named read (table_named stmt)) o → shape_over stmt o ≡ m) → OfBases looked (λ ds tables. shape stmt tables ≡ m)
shape_is stmt read looked m are f = λ files at ds tables b shows.
    f (finite.get tables (table_named stmt)) (subst (λ xs. HasCols (desc_named xs (table_named stmt)) (finite.get tables (table_named stmt))) (sym (are files at ds tables b shows)) (base_cols files at ds tables (table_named stmt) b))

-- the shapes of statements that make and drop tables
pub new_shape : (stmt : Stmt) → creates stmt ≡ true → (o : Option Table) → HasCols None o → shape_over stmt o ≡ None
new_shape (CreateTable name cols) e None h = refl
new_shape (CreateTable name cols) e (Some t) h = absurd h
new_shape stmt e o h = absurd (let wrong : false ≡ true = e in cc)

pub taken_shape : (stmt : Stmt) → creates stmt ≡ true → (d : TableDesc) (o : Option Table) → HasCols (Some d) o → shape_over stmt o ≡ Some (plain TABLE_IS_THERE)
taken_shape (CreateTable name cols) e d (Some t) h = refl
taken_shape (CreateTable name cols) e d None h = absurd h
taken_shape stmt e d o h = absurd (let wrong : false ≡ true = e in cc)

pub drop_shape : (stmt : Stmt) → drops stmt ≡ true → (d : TableDesc) (o : Option Table) → HasCols (Some d) o → shape_over stmt o ≡ None
drop_shape (DropTable name) e d (Some t) h = refl
drop_shape (DropTable name) e d None h = absurd h
drop_shape stmt e d o h = absurd (let wrong : false ≡ true = e in cc)

pub no_shape : (stmt : Stmt) → is_of_tables stmt ≡ true → creates stmt ≡ false → (o : Option Table) → HasCols None o → shape_over stmt o ≡ Some (plain NO_TABLE)
no_shape (CreateTable name cols) e f o h = absurd (let wrong : true ≡ false = f in cc)
no_shape (DropTable name) e f None h = refl
no_shape (Insert i) e f None h = refl
no_shape (Select s) e f None h = refl
no_shape (Update u) e f None h = refl
no_shape (Delete d) e f None h = refl
no_shape stmt e f (Some t) h = absurd h
no_shape stmt e f None h = absurd (let wrong : false ≡ true = e in cc)

pub of_rows : (stmt : Stmt) → is_of_tables stmt ≡ true → creates stmt ≡ false → drops stmt ≡ false → is_of_rows stmt ≡ true
of_rows (CreateTable name cols) e f g = absurd (let wrong : true ≡ false = f in cc)
of_rows (DropTable name) e f g = absurd (let wrong : true ≡ false = g in cc)
of_rows (Insert i) e f g = refl
of_rows (Select s) e f g = refl
of_rows (Update u) e f g = refl
of_rows (Delete d) e f g = refl
of_rows stmt e f g = absurd (let wrong : false ≡ true = e in cc)

-- none of the name was found
pub lacks_is : (stmt : Stmt) (read : List TableDesc) (looked : List Looked) → OfBases looked (λ ds tables. read ≡ ds) → desc_named read (table_named stmt) ≡ None → creates stmt ≡ true → OfBases looked (λ ds tables. IsFound ds tables stmt None)
lacks_is stmt read looked are is makes = λ files at ds tables b shows. record {
  shaped = shape_is stmt read looked None are (λ o h. new_shape stmt makes o (subst (λ x. HasCols x o) is h)) files at ds tables b shows;
  desc = subst (λ xs. desc_named xs (table_named stmt) ≡ None) (are files at ds tables b shows) is;
}

pub taken_is : (stmt : Stmt) (read : List TableDesc) (looked : List Looked) (d : TableDesc) → OfBases looked (λ ds tables. read ≡ ds) → desc_named read (table_named stmt) ≡ Some d → creates stmt ≡ true
    → OfBases looked (λ ds tables. shape stmt tables ≡ Some (plain TABLE_IS_THERE))
taken_is stmt read looked d are is makes = shape_is stmt read looked (Some (plain TABLE_IS_THERE)) are (λ o h. taken_shape stmt makes d o (subst (λ x. HasCols x o) is h))

pub number_is : (read : List TableDesc) (looked : List Looked) (n : ℕ) → OfBases looked (λ ds tables. read ≡ ds) → has_number read n ≡ false → OfBases looked (λ ds tables. has_number ds n ≡ false)
number_is read looked n are is = λ files at ds tables b shows. subst (λ xs. has_number xs n ≡ false) (are files at ds tables b shows) is

pub few_numbers : (ds : List TableDesc) → AllByRecursion IsDesc ds → All (λ d. d.number.0 < 2 ^ 32 - 1) ds
few_numbers [] a k d lt = absurd (omega arith)
few_numbers (x ∷ xs) a zero d lt = omega (arith, a.0.head.number)
few_numbers (x ∷ xs) a (suc k) d lt = few_numbers xs a.1 k d (omega arith)

pub found_is : (stmt : Stmt) (read : List TableDesc) (looked : List Looked) (d : TableDesc) → OfBases looked (λ ds tables. read ≡ ds) → desc_named read (table_named stmt) ≡ Some d
    → ((o : Option Table) → HasCols (desc_named read (table_named stmt)) o → shape_over stmt o ≡ None) → OfBases looked (λ ds tables. IsFound ds tables stmt (Some d))
found_is stmt read looked d are is f = λ files at ds tables b shows. record {
  shaped = shape_is stmt read looked None are f files at ds tables b shows;
  desc = subst (λ xs. desc_named xs (table_named stmt) ≡ Some d) (are files at ds tables b shows) is;
}

pub table_is : (stmt : Stmt) (read : List TableDesc) (d : TableDesc) → AreDescs read → desc_named read (table_named stmt) ≡ Some d → IsTableOf stmt d
table_is stmt read d sound is = (let named = named_some (table_named stmt) read d is in record { desc = each_is IsDesc read sound.each d named.1; name = named.0 })

pub said_again : (P Q : Message → Type 0) (e : Refusal) → ((m : Message) → P m → Q m) → IfSaid P e → IfSaid Q e
said_again P Q (ours.Refused m) f p = f m p
said_again P Q ours.Memory f p = tt

-- ---- the name under which it was looked for, and what a call gives of both

pub named_is : (stmt : Stmt) (name : List ℕ) (slice read : List TableDesc) (found : Option TableDesc) → found ≡ desc_named slice name → slice ≡ read → name ≡ table_named stmt → desc_named read (table_named stmt) ≡ found
named_is stmt name slice read found e s n = sym (e ∙ (λ i. desc_named (s i) (n i)))

pub ok_both : {A E : Type 0} {P Q R : A → Type 0} (r : Result A E) → ((x : A) → P x → Q x → R x) → IfOk r P → IfOk r Q → IfOk r R
ok_both (Ok x) f p q = f x p q
ok_both (Err e) f p q = p
