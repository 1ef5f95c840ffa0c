-- What every crate of the walk cites: a choice by a test, refusals by name, and the words of a module's code.
pub mod Choice
pub mod Refusals
pub mod Words
