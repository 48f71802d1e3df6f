-- A call's words give the call back.
use Rattle.std.proofs.Common.{◌≡◌, List, [], ◌∷◌, Some, Result, Ok, IfOk, refl, sym, ap, subst, ◌∙◌}
use Rattle.uring_enter.specs.declared.call.asked.Policy.{Policy}
use Rattle.uring_enter.specs.declared.call.asked.Policy.TheVariants.{InOrder, Lazy, ByChoice}
use Rattle.uring_enter.specs.declared.call.asked.Asked.{Asked}
use Rattle.uring_enter.specs.declared.call.command.Command.{Command}
use Rattle.uring_enter.specs.declared.call.command.Command.TheVariants as command
use Rattle.uring_enter.specs.declared.call.enter.Before.{Before}
use Rattle.uring_enter.specs.declared.call.enter.Before.TheVariants as before
use Rattle.uring_enter.specs.declared.call.enter.Enter.{Enter}
use Rattle.uring_enter.specs.declared.call.enter.WrongReply.{WrongReply}
use Rattle.uring_enter.specs.declared.call.reply.Reply.{Reply}
use Rattle.uring_ffi_values.specs.LayerWords.EnterForm.{word_of_policy, policy_of, asked_of, words_of_asked, command_of, words_of_command, word_of_before, before_of_word, enter_of, words_of_enter, AreAfter}
use Rattle.uring_enter.specs.Call.After.{IsAfter}
use Rattle.uring_enter.specs.Call.Due.{due}
use Rattle.uring_ffi_values.specs.declared.layer_words.enter_words.EnterWords.{EnterWords}

policy_back : (p : Policy) → policy_of (word_of_policy p) ≡ Some p
policy_back InOrder = refl
policy_back Lazy = refl
policy_back ByChoice = refl

asked_back : (a : Asked) → asked_of (words_of_asked a) ≡ Some a
asked_back a = rw (policy_back a.policy) refl

command_back : (c : Command) → command_of (words_of_command c) ≡ Some c
command_back (command.Hear b) = refl
command_back command.Submit = refl
command_back (command.GoOn b) = refl
command_back command.GoOnFully = refl
command_back command.Sleep = refl
command_back command.PassTime = refl
command_back (command.Return v) = refl

before_back : (b : Before) → before_of_word (word_of_before b) ≡ Some b
before_back before.Nothing = refl
before_back before.Sleep = refl
before_back before.Other = refl

pub enter_back : (e : Enter) → enter_of (words_of_enter e) ≡ Some e
enter_back e =
    rw (asked_back e.asked) (rw (command_back e.wanted) (rw (before_back e.before) refl))

-- a call that has begun, in words
pub begun_after : (x a : Asked) (call : Enter) (w : EnterWords)
    → Some x ≡ Some a → w ≡ words_of_enter call → IsAfter x [] call → AreAfter a [] w
begun_after x a call w same words after =
    let asked : x ≡ a = cc in
    let P : Asked → Type 0 = λ v. IsAfter v [] call in
    (call, ap enter_of words ∙ enter_back call, subst P asked after)

pub first_command : (x a : Asked) (c : Command) → Some x ≡ Some a → c ≡ due x []
    → words_of_command c ≡ words_of_command (due a [])
first_command x a c same is =
    let asked : x ≡ a = cc in
    ap words_of_command (is ∙ ap (λ v. due v []) asked)

-- a call that took a reply, in words
pub next_after : (a : Asked) (log : List Reply) (r parsed : Reply) (held enter moved : Enter)
    (w : EnterWords) (result : Result Command WrongReply) (wanted : Command)
    → Some enter ≡ Some held → Some parsed ≡ Some r → IsAfter a log held
    → (IsAfter a log enter → IfOk result (λ _. IsAfter a (parsed ∷ log) moved))
    → result ≡ Ok wanted → w ≡ words_of_enter moved
    → AreAfter a (r ∷ log) w × (w.wanted ≡ words_of_command (due a (r ∷ log)))
next_after a log r parsed held enter moved w result wanted same_call same_reply after to_after ok words =
    let call : enter ≡ held = cc in
    let reply : parsed ≡ r = cc in
    let Fits : Enter → Type 0 = λ v. IsAfter a log v in
    let Moved : Reply → Type 0 = λ v. IsAfter a (v ∷ log) moved in
    let Went : Result Command WrongReply → Type 0 = λ v. IfOk v (λ _. Moved parsed) in
    let went : Moved r = subst Moved reply (subst Went ok (to_after (subst Fits (sym call) after))) in (
      (moved, ap enter_of words ∙ enter_back moved, went),
      ap (λ (v : EnterWords). v.wanted) words ∙ ap words_of_command went.wanted,
    )
