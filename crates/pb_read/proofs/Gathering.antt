-- One more token of a statement, and its last.
use Rattle.std.proofs.Common.{◌≡◌, ℕ, refl, sym, ap, subst, ◌∙◌, List, [], ◌∷◌, ◌++◌, Bool, true, false, ◌||◌, append_assoc, Some, None, inl, inr}
use Rattle.std.specs.Prelude.{◌⊎◌}
use Rattle.std.specs.List.{list_any}
use Rattle.std.proofs.lemmas.List.{append-nil, map-append}
use Rattle.pb_read.specs.declared.fault.ReadKind.{ReadKind}
use Rattle.pb_read.specs.declared.opb.token.Token as code
use Rattle.pb_read.specs.declared.opb.token.Token.TheVariants as variants
use Rattle.pb_read.specs.Text.{Placed, items}
use Rattle.pb_read.specs.declared.fault.ReadKind.TheVariants.{Unfinished}
use Rattle.pb_read.specs.declared.fault.ReadFault.{ReadFault}
use Rattle.pb_read.specs.Refusal.{first_kind, first_fault}
use Rattle.pb_read.specs.Opb as opb
use Rattle.pb_read.specs.Opb.{is_end, statements_in, statement_of, statement_faults, line_of}
use Rattle.std.proofs.lemmas.Bool.{false≢true}
use Rattle.pb_read.specs.Capped.{capped, read_back}
use Rattle.std.proofs.lemmas.List.Folds.{list_any-append}
use Rattle.pb_read.proofs.Seen.{gathered_token}
use Rattle.pb_read.specs.Places.{is_start}
use Rattle.pb_read.specs.Drafts.{Gathered, gather, gathered, blank_draft}
use Rattle.pb_read.proofs.Drafting.{gathered_none, starts_none, starts_some}
use Rattle.pb_read.specs.Reading.{Fails, Refuses, IsAt, Holds, IsMemory, ends}
use Rattle.pb_read.proofs.Streaming.{refuses_here, goes_on_here, statements_then, at_start, ends_whole, ends_within}

abbrev pub at : opb.Token → ℕ → Placed opb.Token
at t line = record { item = t; line = line }

pub end_is : (t : opb.Token) → variants.End ≡ capped t → is_end t ≡ true
end_is opb.End h = refl
end_is opb.Min h = absurd cc
end_is (opb.Related r) h = absurd cc
end_is (opb.Number n) h = absurd cc
end_is (opb.Lit l) h = absurd cc
end_is opb.Bad h = absurd cc

pub no_end : (t : opb.Token) → (variants.End ≡ capped t → ⊥) → is_end t ≡ false
no_end opb.End h = absurd (h refl)
no_end opb.Min h = refl
no_end (opb.Related r) h = refl
no_end (opb.Number n) h = refl
no_end (opb.Lit l) h = refl
no_end opb.Bad h = refl

-- what was gathered, with one more token
pub held_more : (begun : List (Placed opb.Token)) (held after : Gathered) (token : code.Token) (t : opb.Token) (line : ℕ)
    → held ≡ gathered (items begun) → after ≡ gather held (read_back token) → token ≡ capped t → after ≡ gathered (items (begun ++ at t line ∷ []))
held_more begun held after token t line h e same =
    gathered_token (items begun) held after token t h e same ∙ ap gathered (sym (map-append (λ (x : Placed opb.Token). x.item) begun (at t line ∷ [])))

-- a token that is not the last of its statement
pub after_token : (built : List (List opb.Token) → Type 0) (held after : Gathered) (old new line : ℕ) (taken : List (Placed opb.Token)) (t : opb.Token) → (h : Holds built held old taken)
    → is_end t ≡ false → after ≡ gathered (items (h.begun ++ at t line ∷ [])) → new ≡ line_of (h.begun ++ at t line ∷ []) → Holds built after new (taken ++ at t line ∷ [])
after_token built held after old new line taken t h open_end is first =
    record {
      done = h.done;
      begun = h.begun ++ at t line ∷ [];
      split = ap (λ (x : List (Placed opb.Token)). x ++ at t line ∷ []) h.split ∙ append_assoc h.done h.begun (at t line ∷ []);
      here = record { whole = h.here.whole; clear = h.here.clear; unended = list_any-append ends h.begun (at t line ∷ []) ∙ rw (h.here.unended, open_end) refl };
      held = is;
      line_is = inr first;
      statements = h.statements;
    }

end_in : (begun : List (Placed opb.Token)) (t : opb.Token) (line : ℕ) → is_end t ≡ true → list_any is_end (items (begun ++ at t line ∷ [])) ≡ true
end_in [] t line h = rw h refl
end_in (b ∷ begun) t line h = rw (end_in begun t line h) (or_true (is_end b.item))
  where
    or_true : (b : Bool) → (b || true) ≡ true
    or_true true = refl
    or_true false = refl

pub ended : (done begun : List (Placed opb.Token)) (t : opb.Token) (line : ℕ) → is_end t ≡ true → list_any is_end (items (begun ++ at t line ∷ [])) ≡ true
ended done begun t line h = end_in begun t line h

module _ (built_old built_new : List (List opb.Token) → Type 0) (held : Gathered) (old new line : ℕ) (taken : List (Placed opb.Token)) (t : opb.Token) (holds : Holds built_old held old taken) (end : is_end t ≡ true) where
  -- the reader after a statement
  pub after_statement : first_kind (statement_faults (items (statements_in holds.done)) (items (holds.begun ++ at t line ∷ []))) ≡ None
      → built_new (items (statements_in holds.done) ++ items (holds.begun ++ at t line ∷ []) ∷ []) → Holds built_new blank_draft new (taken ++ at t line ∷ [])
  after_statement clear built =
      let all : List (Placed opb.Token) = (holds.done ++ holds.begun) ++ at t line ∷ [] in
      let here : IsAt ((holds.done ++ holds.begun) ++ at t line ∷ []) [] = goes_on_here holds.done holds.begun (at t line) holds.here end clear in
      let same : statements_in ((holds.done ++ holds.begun) ++ at t line ∷ []) ≡ statements_in holds.done ++ statement_of (holds.begun ++ at t line ∷ []) ∷ [] =
      ap statements_in (sym (append-nil ((holds.done ++ holds.begun) ++ at t line ∷ []))) ∙ statements_then holds.done holds.begun (at t line) holds.here end [] in
      let listed : items (statements_in ((holds.done ++ holds.begun) ++ at t line ∷ [])) ≡ items (statements_in holds.done) ++ items (holds.begun ++ at t line ∷ []) ∷ [] =
      ap items same ∙ map-append (λ (s : Placed (List opb.Token)). s.item) (statements_in holds.done) (statement_of (holds.begun ++ at t line ∷ []) ∷ []) in
      record {
        done = (holds.done ++ holds.begun) ++ at t line ∷ [];
        begun = [];
        split = ap (λ (x : List (Placed opb.Token)). x ++ at t line ∷ []) holds.split ∙ sym (append-nil ((holds.done ++ holds.begun) ++ at t line ∷ []));
        here = here;
        held = sym gathered_none;
        line_is = inl refl;
        statements = subst built_new (sym listed) built;
      }

  -- the fault of a statement is the text's
  pub faulty_statement : (k : ReadKind) → first_kind (statement_faults (items (statements_in holds.done)) (items (holds.begun ++ at t line ∷ []))) ≡ Some k
      → new ≡ line_of (holds.begun ++ at t line ∷ []) → Fails (taken ++ at t line ∷ []) (record { kind = k; line = new })
  faulty_statement k fault is =
      let r : Refuses ((holds.done ++ holds.begun) ++ at t line ∷ []) (record { kind = k; line = line_of (holds.begun ++ at t line ∷ []) }) = refuses_here holds.done holds.begun (at t line) holds.here end k fault in
      inr (rw (holds.split, is) r)

-- the first line of a statement, as the code keeps it
pub line_by : (begun : List (Placed opb.Token)) (held : Gathered) (t : opb.Token) (line old new : ℕ) (fresh : Bool)
    → held ≡ gathered (items begun) → fresh ≡ is_start held.place → (begun ≡ []) ⊎ (old ≡ line_of begun)
    → (fresh ≡ true → new ≡ line) → (fresh ≡ false → new ≡ old) → new ≡ line_of (begun ++ at t line ∷ [])
line_by [] held t line old new fresh h e is first later = first (e ∙ ap (λ (d : Gathered). is_start d.place) h ∙ starts_none)
line_by (b ∷ begun) held t line old new fresh h e (inl none) first later = absurd cc
line_by (b ∷ begun) held t line old new fresh h e (inr is) first later = later (e ∙ ap (λ (d : Gathered). is_start d.place) h ∙ starts_some b.item (items begun)) ∙ is

-- ---- a whole text

pub start_holds : (built : List (List opb.Token) → Type 0) (held : Gathered) (line : ℕ) → held ≡ blank_draft → built [] → Holds built held line []
start_holds built held line e h = record { done = []; begun = []; split = refl; here = at_start; held = e ∙ sym gathered_none; line_is = inl refl; statements = h }

whole_text : (built : List (List opb.Token) → Type 0) (done begun : List (Placed opb.Token)) → IsAt done begun → is_start (gathered (items begun)).place ≡ true → built (items (statements_in done))
    → (first_fault statement_faults [] (statements_in (done ++ begun)) ≡ None) × built (items (statements_in (done ++ begun)))
whole_text built done [] here e h = (ends_whole done here, rw append-nil h)
whole_text built done (b ∷ begun) here e h = absurd (false≢true (sym (starts_some b.item (items begun)) ∙ e))

-- the text ends between two statements
pub text_ends : (built : List (List opb.Token) → Type 0) (held : Gathered) (line : ℕ) (taken : List (Placed opb.Token)) → Holds built held line taken → is_start held.place ≡ true
    → (first_fault statement_faults [] (statements_in taken) ≡ None) × built (items (statements_in taken))
text_ends built held line taken h e =
    subst (λ (ts : List (Placed opb.Token)). (first_fault statement_faults [] (statements_in ts) ≡ None) × built (items (statements_in ts))) (sym h.split)
    (whole_text built h.done h.begun h.here (sym (ap (λ (d : Gathered). is_start d.place) h.held) ∙ e) h.statements)

open_text : (done begun : List (Placed opb.Token)) (held : Gathered) (line : ℕ) → IsAt done begun → held ≡ gathered (items begun) → is_start held.place ≡ false → (begun ≡ []) ⊎ (line ≡ line_of begun)
    → first_fault statement_faults [] (statements_in (done ++ begun)) ≡ Some (record { kind = Unfinished; line = line })
open_text done [] held line here e some is = absurd (false≢true (sym some ∙ ap (λ (d : Gathered). is_start d.place) e ∙ starts_none))
open_text done (b ∷ begun) held line here e some (inl none) = absurd cc
open_text done (b ∷ begun) held line here e some (inr is) = rw is (ends_within done b begun here)

-- the text ends within a statement
pub text_unfinished : (built : List (List opb.Token) → Type 0) (held : Gathered) (line : ℕ) (taken : List (Placed opb.Token)) → Holds built held line taken → is_start held.place ≡ false
    → first_fault statement_faults [] (statements_in taken) ≡ Some (record { kind = Unfinished; line = line })
text_unfinished built held line taken h some =
    subst (λ (ts : List (Placed opb.Token)). first_fault statement_faults [] (statements_in ts) ≡ Some (record { kind = Unfinished; line = line })) (sym h.split)
    (open_text h.done h.begun held line h.here h.held some h.line_is)

-- a fault of each text that begins so is the fault of the text itself
pub fails_now : (ts : List (Placed opb.Token)) (f : ReadFault) → Fails ts f → IsMemory f ⊎ (first_fault statement_faults [] (statements_in ts) ≡ Some f)
fails_now ts f (inl m) = inl m
fails_now ts f (inr r) = inr (ap (λ (xs : List (Placed opb.Token)). first_fault statement_faults [] (statements_in xs)) (sym (append-nil ts)) ∙ r [])
