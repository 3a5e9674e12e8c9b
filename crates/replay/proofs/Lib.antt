-- what the proof of `replay_all` uses
mod Places
