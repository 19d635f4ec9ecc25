-- Which events some lines begin with, and where they stop.
use Rattle.std.proofs.Common.{◌≡◌, ◌≢◌, ℕ, ◌+◌, ◌-◌, ◌^◌, ◌<◌, ◌≤◌, Bool, true, false, cond, not, ◌&&◌, ◌==◌, List, [], ◌∷◌, ◌++◌, length, map, refl, sym, ap, subst, ◌∙◌, arith, append_assoc, append-nil, length-append, inl, inr, zero, suc}
use Rattle.std.specs.Prelude.{Option, Some, None, nat_lt, codes, replicate}
use Rattle.std.specs.List.{list_all, flat_map, concat, onto_first}
use Rattle.std.specs.Fmt.{decimal}
use Rattle.std.proofs.lemmas.Bool.{and_parts}
use Rattle.std.proofs.lemmas.List.Folds.{list_all-append}
use Rattle.std.proofs.lemmas.List.{length-map, map-append, length-replicate}
use Rattle.page_base.specs.declared.numbers.SessNo.{SessNo}
use Rattle.page_base.specs.declared.value.Value.{Value}
use Rattle.page_base.specs.declared.value.Value.TheVariants.{Null}
use Rattle.plain_model.specs.declared.reply.Reply.{Reply}
use Rattle.plain_model.specs.declared.reply.Reply.TheVariants.{Ok, Count, Rows, Msg}
use Rattle.plain_model.specs.declared.event.Event.{Event}
use Rattle.plain_model.specs.declared.event.Event.TheVariants.{Locked, CutAt, RestoreAt, Turned, Said, Left}
use Rattle.plain_model.specs.Printed.{row_text, event_text, printed}
use Rattle.reply_text.specs.declared.heading.Answer.TheVariants as answer
use Rattle.reply_text.specs.declared.heading.Heading.{Heading}
use Rattle.reply_text.specs.declared.heading.Heading.TheVariants as heading
use Rattle.reply_text.specs.Told.{is_session, is_small, is_large, is_told_row, is_told_reply, is_told, AreTold}
use Rattle.reply_text.specs.Values.{row_on}
use Rattle.reply_text.specs.Headings.{heading_on, heading_text}
use Rattle.reply_text.specs.Lines.{lines_of}
use Rattle.reply_text.specs.Steps.{heading_of, rows_of, count_of, event_of, event_lines, Fronts, Stops, first_row, TakesRows, Lacks, TakesEvent}
use Rattle.reply_text.proofs.Options.{both}
use Rattle.reply_text.proofs.ValueLaws.{row_back, row_sound}
use Rattle.reply_text.proofs.HeadingLaws.{is_told_answer, is_told_heading, said_parts, SaidParts}
use Rattle.reply_text.proofs.LineLaws.{heading_on_back, heading_on_sound, rows_lines, lines_more, heading_line}

-- an event is told by its first line and its rows
pub record ToldParts (event : Event) : Type 0 where
  pub heading : is_told_heading (heading_of event) ≡ true
  pub rows : list_all is_told_row (rows_of event) ≡ true
  pub text : event_text event ≡ heading_text (heading_of event) ++ flat_map row_text (rows_of event)
  pub count : length (rows_of event) ≡ count_of (heading_of event)
  pub is : event_of (heading_of event) (rows_of event) ≡ event

four : (a b c d : Bool) → a ≡ true → b ≡ true → c ≡ true → d ≡ true → (a && b && c && d) ≡ true
four a b c d p q r s = both (a && b && c) d (both (a && b) c (both a b p q) r) s

whole_parts : (event : Event) → is_told_heading (heading.Whole event) ≡ true → heading_of event ≡ heading.Whole event → rows_of event ≡ [] → ToldParts event
whole_parts event h same none = record {
  heading = subst (λ (x : Heading). is_told_heading x ≡ true) (sym same) h;
  rows = ap (list_all is_told_row) none;
  text = sym (append-nil (event_text event)) ∙ (λ i. heading_text (sym same i) ++ flat_map row_text (sym none i));
  count = ap length none ∙ ap count_of (sym same);
  is = λ i. event_of (same i) (none i);
}

rows_text : (who : SessNo) (number began : ℕ) (rows : List (List Value)) → event_text (Said who number began (Rows rows)) ≡ heading_text (heading.Rows who number began (length rows)) ++ flat_map row_text rows
rows_text who number began rows = simp append_assoc

pub told_parts : (event : Event) → is_told event ≡ true → ToldParts event
told_parts (Locked who table mode) h = whole_parts (Locked who table mode) h refl refl
told_parts (CutAt who snap) h = whole_parts (CutAt who snap) h refl refl
told_parts (RestoreAt who snap) h = whole_parts (RestoreAt who snap) h refl refl
told_parts (Turned snap) h = whole_parts (Turned snap) h refl refl
told_parts (Said who number began Ok) h = whole_parts (Said who number began Ok) h refl refl
told_parts (Said who number began (Count n)) h = whole_parts (Said who number began (Count n)) h refl refl
told_parts (Said who number began (Rows rows)) h =
    let parts = said_parts who number began (is_large (length rows) && list_all is_told_row rows) h in
    let more = and_parts (is_large (length rows)) (list_all is_told_row rows) parts.told in
    record {
      heading = four (is_session who.0) (is_small number) (is_small began) (is_large (length rows)) parts.session parts.numbered parts.begun more.0;
      rows = more.1;
      text = rows_text who number began rows;
      count = refl;
      is = refl;
    }
told_parts (Said who number began (Msg m)) h = whole_parts (Said who number began (Msg m)) h refl refl
told_parts (Left who) h = whole_parts (Left who) h refl refl

-- an event that is put together of a line and of its rows
pub record MadeParts (h : Heading) (rows : List (List Value)) : Type 0 where
  pub told : is_told (event_of h rows) ≡ true
  pub heading : heading_of (event_of h rows) ≡ h
  pub behind : rows_of (event_of h rows) ≡ rows

none_left : {X : Type 0} (xs : List X) → length xs ≡ 0 → [] ≡ xs
none_left [] h = refl
none_left (x ∷ xs) h = absurd (omega (arith, h))

made_whole : (event : Event) (rows : List (List Value)) → length rows ≡ 0 → is_told event ≡ true → heading_of event ≡ heading.Whole event → rows_of event ≡ [] → MadeParts (heading.Whole event) rows
made_whole event rows none told same empty = record { told = told; heading = same; behind = empty ∙ none_left rows none }

pub made_parts : (h : Heading) (rows : List (List Value)) → is_told_heading h ≡ true → list_all is_told_row rows ≡ true → length rows ≡ count_of h → MadeParts h rows
made_parts (heading.Whole (Locked who table mode)) rows h r n = made_whole (Locked who table mode) rows n h refl refl
made_parts (heading.Whole (CutAt who snap)) rows h r n = made_whole (CutAt who snap) rows n h refl refl
made_parts (heading.Whole (RestoreAt who snap)) rows h r n = made_whole (RestoreAt who snap) rows n h refl refl
made_parts (heading.Whole (Turned snap)) rows h r n = made_whole (Turned snap) rows n h refl refl
made_parts (heading.Whole (Said who number began Ok)) rows h r n = made_whole (Said who number began Ok) rows n h refl refl
made_parts (heading.Whole (Said who number began (Count k))) rows h r n = made_whole (Said who number began (Count k)) rows n h refl refl
made_parts (heading.Whole (Said who number began (Rows given))) rows h r n = cc ((said_parts who number began (is_told_answer (answer.Whole (Rows given))) h).told)
made_parts (heading.Whole (Said who number began (Msg m))) rows h r n = made_whole (Said who number began (Msg m)) rows n h refl refl
made_parts (heading.Whole (Left who)) rows h r n = made_whole (Left who) rows n h refl refl
made_parts (heading.Rows who number began count) rows h r n =
    let parts = said_parts who number began (is_large count) h in
    let large : is_large (length rows) ≡ true = subst (λ (k : ℕ). is_large k ≡ true) (sym n) parts.told in
    record {
      told = four (is_session who.0) (is_small number) (is_small began) (is_told_reply (Rows rows)) parts.session parts.numbered parts.begun (both (is_large (length rows)) (list_all is_told_row rows) large r);
      heading = ap (heading.Rows who number began) n;
      behind = refl;
    }

-- the lines of a history's text
pub lines-printed : (book : List Event) → AreTold book → lines_of (printed book) ≡ flat_map event_lines book
lines-printed [] h = refl
lines-printed (event ∷ book) h =
    let here = and_parts (is_told event) (list_all is_told book) h in
    let parts = told_parts event here.0 in
    let first : List ℕ = heading_text (heading_of event) in
    let rows : List ℕ = flat_map row_text (rows_of event) in
    ap (λ (xs : List ℕ). lines_of (xs ++ printed book)) parts.text ∙ ap lines_of (append_assoc first rows (printed book))
    ∙ lines_more first (rows ++ printed book) (heading_line (heading_of event) parts.heading)
    ∙ ap (λ (ls : List (List ℕ)). first ∷ ls) (rows_lines (rows_of event) (printed book) parts.rows ∙ ap (λ (ls : List (List ℕ)). map row_text (rows_of event) ++ ls) (lines-printed book here.1))

concat_onto : (b : ℕ) (ls : List (List ℕ)) → concat (onto_first b ls) ≡ b ∷ concat ls
concat_onto b [] = refl
concat_onto b (l ∷ ls) = refl

concat_by : (v : Bool) (b : ℕ) (ls : List (List ℕ)) (bs : List ℕ) → concat ls ≡ bs → concat (cond v ((b ∷ []) ∷ ls) (onto_first b ls)) ≡ b ∷ bs
concat_by true b ls bs h = ap (λ (xs : List ℕ). b ∷ xs) h
concat_by false b ls bs h = concat_onto b ls ∙ ap (λ (xs : List ℕ). b ∷ xs) h

-- the lines of bytes are all of them
pub concat-lines_of : (bytes : List ℕ) → concat (lines_of bytes) ≡ bytes
concat-lines_of [] = refl
concat-lines_of (b ∷ bs) = concat_by (b == 10) b (lines_of bs) bs (concat-lines_of bs)

-- some value is only one
some_is : {A : Type 0} (x y : A) → Some x ≡ Some y → x ≡ y
some_is x y h = cc

row_is : (a b : List Value) → is_told_row a ≡ true → is_told_row b ≡ true → row_text a ≡ row_text b → a ≡ b
row_is a b p q e = some_is a b (sym (row_back a p) ∙ ap row_on e ∙ row_back b q)

-- as many rows in front are the same rows
rows_first : (ps bs : List (List Value)) (xs ys : List (List ℕ)) → list_all is_told_row ps ≡ true → list_all is_told_row bs ≡ true → length ps ≡ length bs → map row_text ps ++ xs ≡ map row_text bs ++ ys → (ps ≡ bs) × (xs ≡ ys)
rows_first [] [] xs ys p q n e = (refl, e)
rows_first [] (b ∷ bs) xs ys p q n e = absurd (omega (arith, n))
rows_first (a ∷ ps) [] xs ys p q n e = absurd (omega (arith, n))
rows_first (a ∷ ps) (b ∷ bs) xs ys p q n e =
    let here = and_parts (is_told_row a) (list_all is_told_row ps) p in
    let there = and_parts (is_told_row b) (list_all is_told_row bs) q in
    let head : row_text a ≡ row_text b = cc (e) in
    let tail : map row_text ps ++ xs ≡ map row_text bs ++ ys = cc (e) in
    let long : length ps ≡ length bs = omega (arith, n) in
    let more = rows_first ps bs xs ys here.1 there.1 long tail in
    let same : a ≡ b = row_is a b here.0 there.0 head in
    ((λ i. same i ∷ more.0 i), more.1)

-- where more rows stand in front than some, a row stands behind these
rows_next : (ps bs : List (List Value)) (xs ys : List (List ℕ)) → list_all is_told_row ps ≡ true → length bs < length ps → map row_text ps ++ xs ≡ map row_text bs ++ ys → (row : List Value) × (first_row ys ≡ Some row)
rows_next [] bs xs ys p n e = absurd (omega (arith, n))
rows_next (a ∷ ps) [] xs ys p n e = (a, ap first_row (sym e) ∙ row_back a (and_parts (is_told_row a) (list_all is_told_row ps) p).0)
rows_next (a ∷ ps) (b ∷ bs) xs ys p n e =
    let tail : map row_text ps ++ xs ≡ map row_text bs ++ ys = cc (e) in
    let few : length bs < length ps = omega (arith, n) in
    rows_next ps bs xs ys (and_parts (is_told_row a) (list_all is_told_row ps) p).1 few tail

heading_is : (a b : Heading) → is_told_heading a ≡ true → is_told_heading b ≡ true → heading_text a ≡ heading_text b → a ≡ b
heading_is a b p q e = some_is a b (sym (heading_on_back a p) ∙ ap heading_on e ∙ heading_on_back b q)

-- the first event of lines
pub event_first : (a b : Event) (xs ys : List (List ℕ)) → is_told a ≡ true → is_told b ≡ true → event_lines a ++ xs ≡ event_lines b ++ ys → (a ≡ b) × (xs ≡ ys)
event_first a b xs ys p q e =
    let at = told_parts a p in
    let bt = told_parts b q in
    let head : heading_text (heading_of a) ≡ heading_text (heading_of b) = cc (e) in
    let tail : map row_text (rows_of a) ++ xs ≡ map row_text (rows_of b) ++ ys = cc (e) in
    let same : heading_of a ≡ heading_of b = heading_is (heading_of a) (heading_of b) at.heading bt.heading head in
    let rows = rows_first (rows_of a) (rows_of b) xs ys at.rows bt.rows (at.count ∙ ap count_of same ∙ sym bt.count) tail in
    (sym at.is ∙ (λ i. event_of (same i) (rows.0 i)) ∙ bt.is, rows.1)

-- the events of lines are one history
pub lines_are_one : (a b : List Event) → AreTold a → AreTold b → flat_map event_lines a ≡ flat_map event_lines b → a ≡ b
lines_are_one [] [] p q e = refl
lines_are_one [] (y ∷ b) p q e = cc (e)
lines_are_one (x ∷ a) [] p q e = cc (e)
lines_are_one (x ∷ a) (y ∷ b) p q e =
    let here = and_parts (is_told x) (list_all is_told a) p in
    let there = and_parts (is_told y) (list_all is_told b) q in
    let first = event_first x y (flat_map event_lines a) (flat_map event_lines b) here.0 there.0 e in
    let more = lines_are_one a b here.1 there.1 first.1 in
    (λ i. first.0 i ∷ more i)

-- what begins behind an event
fronts_behind : (event : Event) (front : List (List ℕ)) → is_told event ≡ true → Fronts front → Fronts (event_lines event ++ front)
fronts_behind event front h f = record {
  book = event ∷ f.book;
  more = f.more;
  told = both (is_told event) (list_all is_told f.book) h f.told;
  spelled = ap (λ (ls : List (List ℕ)). event_lines event ++ ls) f.spelled ∙ sym (append_assoc (event_lines event) front f.more);
}

fronts_rest_by : (event : Event) (book : List Event) (front more : List (List ℕ)) → is_told event ≡ true → AreTold book → flat_map event_lines book ≡ (event_lines event ++ front) ++ more → Fronts front
fronts_rest_by event [] front more h t e = cc (e)
fronts_rest_by event (x ∷ book) front more h t e =
    let here = and_parts (is_told x) (list_all is_told book) t in
    let first = event_first x event (flat_map event_lines book) (front ++ more) here.0 h (e ∙ append_assoc (event_lines event) front more) in
    record { book = book; more = more; told = here.1; spelled = first.1 }

fronts_rest : (event : Event) (front : List (List ℕ)) → is_told event ≡ true → Fronts (event_lines event ++ front) → Fronts front
fronts_rest event front h f = fronts_rest_by event f.book front f.more h f.told f.spelled

none_behind : (event : Event) (lines : List (List ℕ)) → is_told event ≡ true → ((book : List Event) → AreTold book → flat_map event_lines book ≡ lines → ⊥) → (book : List Event) → AreTold book → flat_map event_lines book ≡ event_lines event ++ lines → ⊥
none_behind event lines h none [] t e = cc (e)
none_behind event lines h none (x ∷ book) t e =
    let here = and_parts (is_told x) (list_all is_told book) t in
    none book here.1 (event_first x event (flat_map event_lines book) lines here.0 h e).1

-- where lines behind an event stop
stops_behind : (event : Event) (lines : List (List ℕ)) (n : ℕ) → is_told event ≡ true → Stops lines n → Stops (event_lines event ++ lines) (length (event_lines event) + n)
stops_behind event lines n h s = record {
  front = event_lines event ++ s.front;
  rest = s.rest;
  split = ap (λ (ls : List (List ℕ)). event_lines event ++ ls) s.split ∙ sym (append_assoc (event_lines event) s.front s.rest);
  count = ap (λ (k : ℕ). length (event_lines event) + k) s.count ∙ sym (length-append (event_lines event) s.front);
  begins = fronts_behind event s.front h s.begins;
  ends = λ line more e f. s.ends line more e (fronts_rest event (s.front ++ line ∷ []) h (subst Fronts (append_assoc (event_lines event) s.front (line ∷ [])) f));
  none = none_behind event lines h s.none;
}

-- where lines behind a history stop
pub stops_behind_all : (book : List Event) (lines : List (List ℕ)) (n : ℕ) → AreTold book → Stops lines n → Stops (flat_map event_lines book ++ lines) (length (flat_map event_lines book) + n)
stops_behind_all [] lines n h s = subst (Stops lines) (omega arith) s
stops_behind_all (event ∷ book) lines n h s =
    let here = and_parts (is_told event) (list_all is_told book) h in
    let more : List (List ℕ) = flat_map event_lines book in
    let known : Stops (event_lines event ++ (more ++ lines)) (length (event_lines event) + (length more + n)) = stops_behind event (more ++ lines) (length more + n) here.0 (stops_behind_all book lines n here.1 s) in
    let long : length (event_lines event) + (length more + n) ≡ length (event_lines event ++ more) + n = simp length-append (omega arith) in
    let at : Stops ((event_lines event ++ more) ++ lines) (length (event_lines event) + (length more + n)) = subst (λ (ls : List (List ℕ)). Stops ls (length (event_lines event) + (length more + n))) (sym (append_assoc (event_lines event) more lines)) known in
    subst (Stops ((event_lines event ++ more) ++ lines)) long at

no_some : {A : Type 0} (x : A) (o : Option A) → o ≡ Some x → o ≡ None → ⊥
no_some x o p q = cc

nothing : Fronts []
nothing = record { book = []; more = []; told = refl; spelled = refl }

no_first : (line : List ℕ) (book : List Event) (more : List (List ℕ)) → heading_on line ≡ None → AreTold book → flat_map event_lines book ≡ line ∷ more → ⊥
no_first line [] more h t e = cc (e)
no_first line (event ∷ book) more h t e =
    let parts = told_parts event (and_parts (is_told event) (list_all is_told book) t).0 in
    let head : heading_text (heading_of event) ≡ line = cc (e) in
    no_some (heading_of event) (heading_on line) (sym (ap heading_on head) ∙ heading_on_back (heading_of event) parts.heading) h

-- lines stop at a first one that tells nothing
pub stops_heading : (line : List ℕ) (lines : List (List ℕ)) → heading_on line ≡ None → Stops (line ∷ lines) 0
stops_heading line lines h = record {
  front = [];
  rest = line ∷ lines;
  split = refl;
  count = refl;
  begins = nothing;
  ends = λ other more e f. (let same : line ≡ other = cc (e) in no_first other f.book f.more (ap heading_on (sym same) ∙ h) f.told f.spelled);
  none = λ book t e. no_first line book lines h t e;
}

replicate_told : (n : ℕ) → list_all is_told_row (replicate n (Null ∷ [])) ≡ true
replicate_told zero = refl
replicate_told (suc n) = replicate_told n

-- a history begins with the line before rows and with fewer rows
fronts_rows : (h : Heading) (rows : List (List Value)) → is_told_heading h ≡ true → list_all is_told_row rows ≡ true → length rows < count_of h → Fronts (heading_text h ∷ map row_text rows)
fronts_rows h rows told r few =
    let more : List (List Value) = replicate (count_of h - length rows) (Null ∷ []) in
    let all : list_all is_told_row (rows ++ more) ≡ true = list_all-append is_told_row rows more ∙ both (list_all is_told_row rows) (list_all is_told_row more) r (replicate_told (count_of h - length rows)) in
    let long : length (rows ++ more) ≡ count_of h = length-append rows more ∙ ap (λ (k : ℕ). length rows + k) (length-replicate (count_of h - length rows) (Null ∷ [])) ∙ omega (arith, few) in
    let made = made_parts h (rows ++ more) told all long in
    record {
      book = event_of h (rows ++ more) ∷ [];
      more = map row_text more;
      told = both (is_told (event_of h (rows ++ more))) true made.told refl;
      spelled = append-nil (event_lines (event_of h (rows ++ more))) ∙ (λ i. heading_text (made.heading i) ∷ map row_text (made.behind i)) ∙ ap (λ (ls : List (List ℕ)). heading_text h ∷ ls) (map-append row_text rows more);
    }

-- behind a line and fewer rows than it tells a row comes
rows_come : (h : Heading) (rows : List (List Value)) (ys : List (List ℕ)) (book : List Event) → is_told_heading h ≡ true → length rows < count_of h → AreTold book → flat_map event_lines book ≡ heading_text h ∷ (map row_text rows ++ ys) → first_row ys ≡ None → ⊥
rows_come h rows ys [] told few t e lacks = cc (e)
rows_come h rows ys (event ∷ book) told few t e lacks =
    let here = and_parts (is_told event) (list_all is_told book) t in
    let parts = told_parts event here.0 in
    let head : heading_text (heading_of event) ≡ heading_text h = cc (e) in
    let tail : map row_text (rows_of event) ++ flat_map event_lines book ≡ map row_text rows ++ ys = cc (e) in
    let same : heading_of event ≡ h = heading_is (heading_of event) h parts.heading told head in
    let more : length rows < length (rows_of event) = omega (arith, few, parts.count, ap count_of same) in
    let found = rows_next (rows_of event) rows (flat_map event_lines book) ys parts.rows more tail in
    no_some found.0 (first_row ys) found.1 lacks

-- lines stop where a row is missing
pub stops_rows : (line : List ℕ) (lines : List (List ℕ)) (h : Heading) (n : ℕ) → heading_on line ≡ Some h → Lacks (count_of h) lines n → Stops (line ∷ lines) (1 + n)
stops_rows line lines h n e lacks =
    let known = heading_on_sound line h e in
    let front : List (List ℕ) = map row_text lacks.rows in
    let whole : line ∷ lines ≡ heading_text h ∷ (front ++ lacks.rest) = (λ i. known.0 i ∷ lacks.split i) in
    record {
      front = heading_text h ∷ front;
      rest = lacks.rest;
      split = whole;
      count = omega (arith, lacks.place, length-map lacks.rows row_text);
      begins = fronts_rows h lacks.rows known.1 lacks.told lacks.few;
      ends = λ other more r f. rows_come h lacks.rows (other ∷ f.more) f.book known.1 lacks.few f.told (f.spelled ∙ ap (λ (ls : List (List ℕ)). heading_text h ∷ ls) (append_assoc front (other ∷ []) f.more)) (row_lacks lacks.rest other more f.more r lacks.lacks);
      none = λ book t s. rows_come h lacks.rows lacks.rest book known.1 lacks.few t (s ∙ whole) lacks.lacks;
    }
  where
    row_lacks : (rest : List (List ℕ)) (other : List ℕ) (more others : List (List ℕ)) → rest ≡ other ∷ more → first_row rest ≡ None → first_row (other ∷ others) ≡ None
    row_lacks rest other more others e h = sym (ap first_row e) ∙ h

-- an event was taken: its first line, and its rows
pub takes_event : (line : List ℕ) (lines next : List (List ℕ)) (h : Heading) (rows : List (List Value)) → heading_on line ≡ Some h → TakesRows (count_of h) lines rows next → TakesEvent (line ∷ lines) (event_of h rows) next
takes_event line lines next h rows e t =
    let known = heading_on_sound line h e in
    let made = made_parts h rows known.1 t.told t.long in
    record {
      told = made.told;
      split = (λ i. known.0 i ∷ t.split i) ∙ (λ i. heading_text (sym made.heading i) ∷ (map row_text (sym made.behind i) ++ next));
    }

-- how many lines it has
pub event_long : (h : Heading) (rows : List (List Value)) (line : List ℕ) (lines next : List (List ℕ)) → heading_on line ≡ Some h → TakesRows (count_of h) lines rows next → length (event_lines (event_of h rows)) ≡ 1 + length rows
event_long h rows line lines next e t =
    let made = made_parts h rows (heading_on_sound line h e).1 t.told t.long in
    let long : length (map row_text (rows_of (event_of h rows))) ≡ length rows = length-map (rows_of (event_of h rows)) row_text ∙ ap length made.behind in
    omega (arith, long)
